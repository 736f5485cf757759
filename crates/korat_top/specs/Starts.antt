-- Between crates: what the program does with what it was given for words.
use Rattle.std.specs.Prelude.{◌≡◌, ℕ, List, [], Result, Ok, Err, drop, map, string_bytes}
use Rattle.std.specs.declared.alloc.Global.{Global}
use Rattle.std.specs.declared.io.Error.{Error}
use Rattle.std.specs.declared.io.ErrorKind.TheVariants.{OutOfMemory}
use Rattle.std.specs.declared.string.String.{String}
use Rattle.std.specs.declared.vec.IntoIter.{IntoIter}
use Rattle.std.specs.IoError.{error_kind}
use Rattle.std.specs.Vec.Iter.{into_iter_items}
use Rattle.korat_top.specs.Answer.{asked_of}
use Rattle.korat_top.specs.Ends.{Outside}
use Rattle.korat_top.specs.OneWorker.{ServesAlone}
use Rattle.korat_top.specs.declared.alone.Alone.{Alone}
use Rattle.korat_top.specs.declared.alone.Alone.TheVariants.{Ended}
use Rattle.korat_top.specs.declared.given.NoWords.{NoWords}
use Rattle.korat_top.specs.declared.given.NoWords.TheVariants.{NotText, Memory}

-- what the system gives for words: all of them, the program's own name first
abbrev pub Given : Type 0
Given = Result (IntoIter (String Global) Global) Error

-- the words are those after the program's own name
abbrev pub IsGiven : Given → List (List ℕ) → Type 0
IsGiven (Ok all) words = words ≡ drop 1 (map string_bytes (into_iter_items all))
IsGiven (Err error) words = ⊥

-- why there are none: the system lacked memory for them, or has another error, as it has for words that aren't text; or
-- memory was refused for a copy, which is free
abbrev pub WhyNone : Given → NoWords → Type 0
WhyNone (Ok all) (Memory why) = Unit {0}
WhyNone (Ok all) NotText = ⊥
WhyNone (Err error) (Memory why) = error_kind error ≡ OutOfMemory
WhyNone (Err error) NotText = ¬ (error_kind error ≡ OutOfMemory)

-- nothing is read or written, and the status is that of out of memory
pub record EndsUnread {F K : Type 0} (files files' : F) (out out' : K) (alone : Alone) : Type 0 where
  pub status_is : alone ≡ Ended 8
  pub unread : files' ≡ files
  pub unwritten : out' ≡ out

-- Words are served by one worker, by what is seen of files and sink. Words of which one isn't text are served as none, which are no
-- command.
abbrev pub Starts : {F K : Type 0} → (F → K → Outside) → Result (List (List ℕ)) NoWords → F → F → K → K → Alone → Type 0
Starts see (Ok words) files files' out out' alone = ServesAlone see (asked_of words) files files' out out' alone
Starts see (Err NotText) files files' out out' alone = ServesAlone see (asked_of []) files files' out out' alone
Starts see (Err (Memory why)) files files' out out' alone = EndsUnread files files' out out' alone
