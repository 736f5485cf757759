-- Between crates: the next candidate of a search.
use Rattle.std.specs.Prelude.{◌≡◌, ℕ, List, Option, Some, None}
use Rattle.kr_base.specs.Cuts.{Before}
use Rattle.kr_mean.specs.Space.{Space}
use Rattle.kr_mean.specs.Runs.{key_along}
use Rattle.kr_mean.specs.Entries.{IsListed}
use Rattle.kr_step.specs.declared.candidates.Ending.{Ending}
use Rattle.kr_step.specs.Steps.{IsFirst, path_of}

-- a candidate that was run; or there is none
abbrev pub Finds : Space → (List ℕ → List ℕ) → (List ℕ → Ending) → List ℕ → Option Ending → List ℕ → List (ℕ × ℕ) → Type 0
Finds S order ending c (Some e) v path = IsFirst S order c v × (e ≡ ending v) × (path ≡ path_of v (order v))
Finds S order ending c None v path = (u : List ℕ) → IsListed S order u → Before c (key_along u (order u)) → ⊥

-- a candidate that was found was run before it is reported
abbrev pub Counts : Option Ending → ℕ → Type 0
Counts (Some e) ahead = ahead ≡ 1
Counts None ahead = ahead ≡ 0
