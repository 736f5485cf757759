-- Collections of a heap.
use Rattle.std.specs.Prelude.{◌++◌, ◌==◌, not, if◌then◌else◌}
use Rattle.std.proofs.Common.{◌≡◌, Bool, true, false, List, [], ◌∷◌, length, refl, arith}
use Rattle.kr_value.specs.declared.value.Value.{Value}
use Rattle.kr_value.specs.declared.value.Value.TheVariants.{Bool as Truth}
use Rattle.kr_mean.specs.Collections.{is_empty, has_member, gives, added_once}
use Rattle.kr_coll.specs.Identities.{with_member}

-- a set after `add`, and the answer
pub set_adds : (v : Value) (ms : List Value) → added_once (has_member v ms) v ms ≡ gives (Truth (not (has_member v ms))) (with_member v ms)
set_adds v ms = go (has_member v ms)
  where
    go : (b : Bool) → added_once b v ms ≡ gives (Truth (not b)) (if b then ms else ms ++ v ∷ [])
    go true = refl
    go false = refl

pub empty_is : (ms : List Value) → is_empty ms ≡ (length ms == 0)
empty_is [] = refl
empty_is (m ∷ ms) = search arith
