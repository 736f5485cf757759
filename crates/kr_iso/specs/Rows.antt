-- Between crates: values of a slot that follow one another alike.
use Rattle.std.specs.Prelude.{◌≡◌, ℕ, ◌+◌, ◌<◌, ◌≤◌, Option, Some, None}
use Rattle.kr_mean.specs.Problem.{DomainObject}
use Rattle.kr_mean.specs.Space.{Space}
use Rattle.kr_iso.specs.Unused.{IsNear}

-- the object so many places after one
abbrev pub further : DomainObject → ℕ → DomainObject
further o n = record { domain = o.domain; number = o.number + n }

abbrev pub further_on : Option DomainObject → ℕ → Option DomainObject
further_on None n = None
further_on (Some o) n = Some (further o n)

-- so many values from an index on are no objects, or objects one after another
pub record IsRow (space : Space) (slot index count : ℕ) : Type 0 where
  pub within : index + count ≤ space.size slot
  pub each : (n : ℕ) → n < count → space.object_at slot (index + n) ≡ further_on (space.object_at slot index) n

-- an object lets so many from one on stand: those of its domain up to the one after it
abbrev pub Lets : Option DomainObject → DomainObject → ℕ → Type 0
Lets other o count = (n : ℕ) → n < count → IsNear other (further o n)
