-- Each value of a domain that breaks no rule is an item.
use Rattle.std.proofs.Common.{◌≡◌, ℕ, ℤ, List, [], length, codes, Option, Some, None, option_and_then, refl}
use Rattle.toml.specs.Data.{Data, string, integer, float, boolean, datetime, array, table, Members, get_member, as_integer}
use Rattle.kr_fin.specs.declared.shapes.Limits.{Limits}
use Rattle.kr_fin.specs.declared.shapes.Shape.TheVariants.{Range}
use Rattle.kr_fin.specs.Document.{range_in}
use Rattle.kr_fin.specs.Faults.{range, required, number, unknown_keys}
use Rattle.kr_fin.specs.Shapes.{limits_of}
use Rattle.kr_fin.specs.Laws.{ItemLaw}
use Rattle.kr_base.proofs.ListLemmas.{append_is_nil}

-- an integer that has to be there and breaks no rule is there
whole : (limits : Limits) (at : List ℕ) (o : Option Data) → required (number limits at) at o ≡ []
    → (z : ℤ) × (option_and_then as_integer o ≡ Some z)
whole limits at None e = absurd (cc (e))
whole limits at (Some (integer z)) e = (z, refl)
whole limits at (Some (string s)) e = absurd (cc (e))
whole limits at (Some (float x)) e = absurd (cc (e))
whole limits at (Some (boolean b)) e = absurd (cc (e))
whole limits at (Some (datetime dt)) e = absurd (cc (e))
whole limits at (Some (array ds)) e = absurd (cc (e))
whole limits at (Some (table ms)) e = absurd (cc (e))

one_range : (limits : Limits) (at : List ℕ) (ms : Members) → range limits at ms ≡ [] → length (range_in ms) ≡ 1
one_range limits at ms e =
    let ends = append_is_nil _ _ (append_is_nil (unknown_keys Range (λ key. at) ms) _ e).1 in
    let from = whole limits at (get_member (codes "from") ms) ends.0 in
    let to = whole limits at (get_member (codes "to") ms) ends.1 in
    rw (from.1, to.1) refl

pub one_item : ItemLaw
one_item purpose at (integer z) e = refl
one_item purpose at (table ms) e = one_range (limits_of purpose) at ms e
one_item purpose at (boolean b) e = refl
one_item purpose at (string s) e = refl
one_item purpose at (float x) e = absurd (cc (e))
one_item purpose at (datetime dt) e = absurd (cc (e))
one_item purpose at (array ds) e = absurd (cc (e))
