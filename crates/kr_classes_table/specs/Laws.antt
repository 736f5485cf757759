-- Between crates: what holds of the first of several broken rules.
use Rattle.std.specs.Prelude.{◌≡◌, ◌⊎◌, List, [], ◌∷◌, false, Some, None}
use Rattle.kr_classes_table.specs.Rules.{Fault, is_before, least}

abbrev pub IsOneOf : Fault → List Fault → Type 0
IsOneOf f [] = ⊥
IsOneOf f (g ∷ gs) = (g ≡ f) ⊎ IsOneOf f gs

-- it is one of these, and none of them is before it
pub record IsFirst (fs : List Fault) (f : Fault) : Type 0 where
  pub one : IsOneOf f fs
  pub first : (g : Fault) → IsOneOf g fs → is_before g f ≡ false

pub record IsLeast (fs : List Fault) : Type 0 where
  pub none : least fs ≡ None → fs ≡ []
  pub some : (f : Fault) → least fs ≡ Some f → IsFirst fs f

abbrev pub LeastLaw : Type 0
LeastLaw = (fs : List Fault) → IsLeast fs
