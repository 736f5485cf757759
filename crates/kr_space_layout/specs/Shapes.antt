-- Between crates: the positions of a domain's objects among its values.
use Rattle.std.specs.Prelude.{◌≡◌, ℕ, ◌+◌, ◌-◌, ◌^◌, ◌<◌, ◌≤◌, List, [], length, Option, Some, None, Bool, true, nat_lt, if◌then◌else◌}
use Rattle.std.proofs.Common.{get_or}
use Rattle.kr_value.specs.declared.value.Value.TheVariants.{Ref as Reference}
use Rattle.kr_iso.specs.Rows.{further_on}
use Rattle.kr_mean.specs.Problem.{Choice, DomainObject}
use Rattle.kr_mean.specs.Space.{no_choice}
use Rattle.kr_space_layout.specs.declared.entry.Entry.{Entry}
use Rattle.kr_space_layout.specs.declared.shape.Shape.{Shape}
use Rattle.kr_space_layout.specs.declared.stretch.Stretch.{Stretch}
use Rattle.kr_space_layout.specs.Stretches.{all_choices}

-- from an index on the objects of a class domain, in order
abbrev pub object_from : ℕ → ℕ → ℕ → Option DomainObject
object_from from domain i = if nat_lt i from then None else Some (record { domain = domain; number = i - from })

-- how many values there are, and where it is simple, the objects and their positions
pub record IsShape (choices : List Choice) (shape : Shape) : Type 0 where
  pub size : shape.size ≡ length choices
  pub within : shape.from ≤ shape.size
  pub fits : shape.first + (shape.size - shape.from) < 2 ^ 32
  pub objects : shape.simple ≡ true → (i : ℕ) → i < length choices → (get_or choices i no_choice).object ≡ object_from shape.from shape.domain i
  pub values : (i : ℕ) → shape.simple ≡ true → shape.from ≤ i → i < length choices → (get_or choices i no_choice).value ≡ Reference (shape.first + (i - shape.from))

-- so many values from an index on are no objects, or objects one after another
pub record IsAlike (choices : List Choice) (index count : ℕ) : Type 0 where
  pub within : index + count ≤ length choices
  pub each : (n : ℕ) → n < count → (get_or choices (index + n) no_choice).object ≡ further_on (get_or choices index no_choice).object n

-- where this is recorded, no value is an object
abbrev pub IsPlainShape : Shape → Bool → Type 0
IsPlainShape s told = told ≡ true → (s.simple ≡ true) × (s.from ≡ s.size)

-- where this is recorded, the value at an index is an object
abbrev pub IsObjectShape : Shape → ℕ → Bool → Type 0
IsObjectShape s i told = told ≡ true → (s.simple ≡ true) × (s.from ≤ i)

-- the values of a domain of the pool, or those of `this`
abbrev pub values_with : List Stretch → List (List Stretch) → Option ℕ → List Choice
values_with this pool None = all_choices this
values_with this pool (Some d) = all_choices (get_or pool d [])

-- each slot has a shape
pub record AreShapes (this : List Stretch) (pool : List (List Stretch)) (entries : List Entry) (shapes : List Shape) : Type 0 where
  pub long : length shapes ≡ length entries
  pub each : (k : ℕ) (e : Entry) (s : Shape) → k < length entries → IsShape (values_with this pool (get_or entries k e).domain) (get_or shapes k s)
