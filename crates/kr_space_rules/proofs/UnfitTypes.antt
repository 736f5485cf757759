-- Values that don't fit a type, by its number.
use Rattle.std.proofs.Common.{◌≡◌, ℕ, Bool, List, Option, Some, None, subst}
use Rattle.std.specs.Prelude.{not}
use Rattle.std.specs.List.{list_any}
use Rattle.kr_classes_table.specs.Types.{JavaType}
use Rattle.kr_classes_table.specs.Table.{Table}
use Rattle.kr_fin.specs.declared.document.FinDoc.{FinDoc}
use Rattle.kr_fin.specs.declared.document.Item.{Item}
use Rattle.kr_classes_names.specs.Types.{TypeList, IsTypeNumber}
use Rattle.kr_space_names.specs.Texts.{Stands}
use Rattle.kr_space_meaning.specs.Faults.{fits, is_unfit}

pub unfit_some : (table : Table) (document : FinDoc) (types : TypeList) (n : ℕ) (items : List Item) (b : Bool) → ((t : JavaType) → IsTypeNumber types n t → b ≡ list_any (λ i. not (fits table document t i)) items)
    → (found : Option ℕ) → found ≡ Some n → (t : Option JavaType) → Stands types found t → b ≡ is_unfit table document t items
unfit_some table document types n items b k found e t h = at t (subst (λ (o : Option ℕ). Stands types o t) e h)
  where
    at : (t : Option JavaType) → Stands types (Some n) t → b ≡ is_unfit table document t items
    at None h = absurd h
    at (Some t) h = k t h
