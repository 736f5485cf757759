-- The shape of the values on top.
use Rattle.std.proofs.Common.{◌≡◌, List, [], ◌∷◌, Some, None, subst}
use Rattle.std.specs.Prelude.{slice_get}
use Rattle.kr_ast.specs.Arena.{Arena}
use Rattle.kr_parse_grammar.specs.declared.value.Tag.{Tag}
use Rattle.kr_parse_grammar.specs.Values.{tag}
use Rattle.kr_parse_reduction.specs.declared.value.Kept.{Kept}
use Rattle.kr_parse_reduction.specs.Shown.{shown}

pub at_top : (P : List Kept → Type 0) (vs : List Kept) (v : Kept) → Some v ≡ slice_get vs 0 → ((us : List Kept) → P (v ∷ us)) → P vs
at_top P [] v e g = absurd (some_none v e)
  where
    some_none : (v : Kept) → Some v ≡ None → ⊥
    some_none v e = cc
at_top P (x ∷ us) v e g = let q : v ≡ x = cc in subst (λ (y : Kept). P (y ∷ us)) q (g us)

-- the tag of a value on top that has its own
pub tag_of_top : (a : Arena) (vs : List Kept) (v : Kept) (t : Tag) → Some v ≡ slice_get vs 0 → ((us : List Kept) → tag (shown a (v ∷ us)) ≡ t) → tag (shown a vs) ≡ t
tag_of_top a vs v t e g = at_top (λ (us : List Kept). tag (shown a us) ≡ t) vs v e g
