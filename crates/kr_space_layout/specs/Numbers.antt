-- Between crates: objects by their numbers in the heap.
use Rattle.std.specs.Prelude.{◌≡◌, ℕ, ◌<◌, length, Option, Some, None}
use Rattle.kr_iso.specs.Objects.{object_of}
use Rattle.kr_iso.specs.declared.object.Object.{Object as Numbered}
use Rattle.kr_mean.specs.Problem.{Problem, DomainObject, domain_at, heap_number}

-- an object of a class domain, with its number in the heap
pub record HasNumber (problem : Problem) (number : ℕ) (o : DomainObject) : Type 0 where
  pub domain : o.domain < length problem.domains
  pub inside : o.number < (domain_at problem o.domain).count
  pub is : heap_number problem o ≡ number

-- the object of a number, where there is one
abbrev pub IsFound : Problem → ℕ → Option Numbered → Type 0
IsFound problem number (Some o) = HasNumber problem number (object_of o)
IsFound problem number None = (o : DomainObject) → HasNumber problem number o → ⊥
