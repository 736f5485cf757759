-- To be believed: the runs of a walk that ends where the taker is full.
use Rattle.std.specs.Prelude.{◌≡◌, ◌≤◌, ℕ, ◌+◌, List, ◌∷◌, ◌++◌, length, Some}
use Rattle.kr_base.specs.declared.entry.Entry.{Entry}
use Rattle.kr_survey.specs.Scans.{rows_of}
use Rattle.kr_survey.specs.Takings.{Takes}
use Rattle.kr_survey.specs.declared.taker.End.{End}
use Rattle.kr_survey.specs.declared.taker.End.TheVariants.{Whole, Full}
use Rattle.kr_survey.specs.declared.taker.Room.TheVariants.{More}

-- the taker had room before the last entry that was walked; there was at most one run for each entry, and so many more
pub record StopsWhenFull {T K R : Type 0} (takes : Takes T K R) (es : List (Entry R)) (a : T) (from : K) (before after more : ℕ) : Type 0 where
  pub front : List (Entry R)
  pub last : Entry R
  pub behind : List (Entry R)
  pub parts : es ≡ front ++ last ∷ behind
  pub taker : T
  pub output : K
  pub room : takes a from (rows_of front) taker output (Some More)
  pub few : after ≤ before + length front + 1 + more

abbrev pub IfFull : End → Type 0 → Type 0
IfFull (Whole tried spent) P = Unit {0}
IfFull Full P = P
