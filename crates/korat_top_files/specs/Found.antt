-- Between crates: what the work on files finds, before anything is written.
use Rattle.std.specs.Prelude.{◌≡◌, ℕ, ◌<◌, ◌≤◌, List, [], length, All, Option, Some, IfSome, Result, Ok, Err, Vec, slice_index_or}
use Rattle.std.specs.declared.alloc.Global.{Global}
use Rattle.kr_base.specs.Causes.{Rose}
use Rattle.kr_base.specs.declared.refusal.RefusalAt.{RefusalAt}
use Rattle.kr_base.specs.declared.refusal.RefusalAt.TheVariants as at
use Rattle.kr_base.specs.declared.refusal.RefusalOf.{RefusalOf}
use Rattle.kr_base.specs.declared.refusal.RefusalOf.TheVariants as of
use Rattle.kr_ast.specs.Arena.{Arena, root}
use Rattle.kr_mean.specs.declared.mode.Mode.{Mode}
use Rattle.kr_space_problem.specs.Posed.{posed}
use Rattle.kr_laws_types.specs.Derivation.{AreClasses}
use Rattle.kr_space_problem.specs.declared.problem.Problem.{Problem}
use Rattle.kr_pure.specs.declared.purity.PureRefusal.{PureRefusal}
use Rattle.kr_pure.specs.declared.purity.PureRefusal.TheVariants as pure
use Rattle.korat_top_files.specs.Refusals.{Inputs, Refusal, at_place, call_code, of_finitization, too_long, name_of, refusal_of}
use Rattle.korat_top_files.specs.Steps.{LIMIT, ReadsIn, Reads, AllTold}
use Rattle.kr_io.specs.Held.{Held}
use Rattle.korat_top_files.specs.Chains.{MOST_NODES, each, checking}
use Rattle.korat_top_files.specs.declared.refusal.InputFile.{InputFile}
use Rattle.korat_top_files.specs.declared.refusal.InputFile.TheVariants as input
use Rattle.korat_top_files.specs.declared.refusal.Refusal.{Refusal as OwnRefusal}
use Rattle.korat_top_files.specs.declared.refusal.Stop.{Stop}
use Rattle.korat_top_files.specs.declared.refusal.Stop.TheVariants.{Read, Refused, Memory}
use Rattle.korat_top_files.specs.declared.rules.CallRule.TheVariants.{Impure}

-- ---- What is read

-- a count stays, unless a read failed
abbrev pub CountStays : {X : Type 0} → ℕ → ℕ → Result X Stop → Type 0
CountStays before now (Ok x) = now ≡ before
CountStays before now (Err (Refused r)) = now ≡ before
CountStays before now (Err (Memory why)) = now ≡ before
CountStays before now (Err (Read file)) = Unit {0}

-- what is read of a file, as far as its bytes are known
abbrev pub telling : Held → InputFile → List ℕ → Result (List ℕ) Refusal → Type 0
telling held file name (Ok bytes) = (length bytes ≤ LIMIT) × IfSome (held name) (λ all. all ≡ bytes)
telling held file name (Err r) = IfSome (held name) (λ all. LIMIT < length all) × (r ≡ too_long file)

abbrev pub telling_source : Held → ℕ → List ℕ → Result (List ℕ) Refusal → Type 0
telling_source held n name = telling held (input.Source n) name

-- one read of a file
abbrev pub HasRead : {F : Type 0} → (F → Held) → (F → ℕ) → (F → Option (List ℕ)) → InputFile → List ℕ → F → F → Result (Vec ℕ Global) Stop → Type 0
HasRead held faults last file name files files' (Ok v) = telling (held files) file name (Ok v.items)
HasRead held faults last file name files files' (Err (Refused r)) = telling (held files) file name (Err (refusal_of r))
HasRead held faults last file name files files' (Err (Read failed)) = (failed ≡ file) × (last files' ≡ Some name) × Rose (faults files) (faults files')
HasRead held faults last file name files files' (Err (Memory why)) = Unit {0}

-- the source of a number was not read, and no file before it is too long
pub record ReadFails {F : Type 0} (held : F → Held) (faults : F → ℕ) (last : F → Option (List ℕ)) (names : List (List ℕ)) (files files' : F) (failed : InputFile) : Type 0 where
  pub number : ℕ
  pub file : failed ≡ input.Source number
  pub read : ReadsIn (held files) names (slice_index_or names number [])
  pub named : last files' ≡ Some (slice_index_or names number [])
  pub cause : Rose (faults files) (faults files')

-- the reads of the sources
abbrev pub HasReadAll : {F : Type 0} → (F → Held) → (F → ℕ) → (F → Option (List ℕ)) → List (List ℕ) → F → F → Result (List (List ℕ)) Stop → Type 0
HasReadAll held faults last names files files' (Ok texts) = each (telling_source (held files)) 0 names (Ok texts)
HasReadAll held faults last names files files' (Err (Refused r)) = each (telling_source (held files)) 0 names (Err (refusal_of r))
HasReadAll held faults last names files files' (Err (Read failed)) = ReadFails held faults last names files files' failed
HasReadAll held faults last names files files' (Err (Memory why)) = Unit {0}

-- ---- What is judged

-- A stop is for this refusal.
abbrev pub IsFor : Refusal → Stop → Type 0
IsFor refusal stop = (r : OwnRefusal) × (stop ≡ Refused r) × (refusal_of r ≡ refusal)

-- what stops is a refusal of a source, of the finitization, or of the predicate, or for being out of memory
abbrev pub StopsAt : {R : Type 0} → (R → List ℕ) → RefusalAt R → Stop → Type 0
StopsAt code (at.Broken place rule) stop = IsFor (at_place place (code rule)) stop
StopsAt code (at.NoMemory why) stop = stop ≡ Memory why

abbrev pub StopsOf : {R : Type 0} → (R → List ℕ) → RefusalOf R → Stop → Type 0
StopsOf code (of.Broken fault) stop = IsFor (of_finitization (code fault.rule) fault.item) stop
StopsOf code (of.NoMemory why) stop = stop ≡ Memory why

abbrev pub StopsImpure : PureRefusal → Stop → Type 0
StopsImpure (pure.Impure place) stop = IsFor (at_place place (call_code Impure)) stop
StopsImpure (pure.NoMemory why) stop = stop ≡ Memory why

-- Work that stops has a refusal that may come of it, or is refused memory, which is free. It reads nothing.
abbrev pub StopsBy : {A : Type 0} → (Result A Refusal → Type 0) → Stop → Type 0
StopsBy outcome (Refused r) = outcome (Err (refusal_of r))
StopsBy outcome (Memory why) = Unit {0}
StopsBy outcome (Read file) = ⊥

-- what is made, seen as a value of the steps, may come of it
abbrev pub Meets : {V A : Type 0} → (Result A Refusal → Type 0) → (V → A) → Result V Stop → Type 0
Meets outcome seen (Ok v) = outcome (Ok (seen v))
Meets outcome seen (Err stop) = StopsBy outcome stop

-- each file is a list of classes, whose parts are of their places' shapes
abbrev pub AreShaped : List Arena → Type 0
AreShaped files = All (λ a. AreClasses (root a)) files

-- the trees of the predefined classes and of at most 16 sources, each of as many nodes as a source can have, and of the shapes of classes
pub record AreGrown (trees : List Arena) : Type 0 where
  pub few : length trees ≤ 17
  pub small : All (λ tree. length tree.entries ≤ MOST_NODES) trees
  pub shaped : AreShaped trees

-- ---- What is found

-- The read of a file failed and was counted.
pub record FailsToRead {F : Type 0} (faults : F → ℕ) (last : F → Option (List ℕ)) (reads : List ℕ → Type 0) (name : List ℕ) (files files' : F) : Type 0 where
  pub read : reads name
  pub named : last files' ≡ Some name
  pub cause : Rose (faults files) (faults files')

-- what the steps say of what the files hold, where it is known; or a read fault; or being out of memory, which is free
abbrev pub FindsIn : {F : Type 0} → (F → Held) → (F → ℕ) → (F → Option (List ℕ)) → Mode → Inputs → F → F → Result Problem Stop → Type 0
FindsIn held faults last mode inputs files files' (Ok f) = AllTold (held files) inputs → checking (held files) mode inputs (Ok (posed f))
FindsIn held faults last mode inputs files files' (Err (Refused r)) = AllTold (held files) inputs → checking (held files) mode inputs (Err (refusal_of r))
FindsIn held faults last mode inputs files files' (Err (Read failed)) = FailsToRead faults last (Reads (held files) inputs) (name_of inputs failed) files files'
FindsIn held faults last mode inputs files files' (Err (Memory why)) = Unit {0}
