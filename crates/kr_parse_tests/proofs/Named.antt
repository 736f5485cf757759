-- Each of several names is in the text.
use Rattle.std.proofs.Common.{◌≡◌, ℕ, zero, suc, List, [], ◌∷◌, Some, subst}
use Rattle.std.specs.Prelude.{slice_get}
use Rattle.std.proofs.lemmas.Option.{same_Some}
use Rattle.kr_ast.specs.declared.node.Name.{Name}
use Rattle.kr_ast.specs.Arena.{AreNamesIn}

pub one_in : (text : List ℕ) (ns : List Name) (i : ℕ) (n : Name) → AreNamesIn text ns → slice_get ns i ≡ Some n → AreNamesIn text (n ∷ [])
one_in text [] i n h is = cc
one_in text (m ∷ ns) zero n h is = subst (λ (x : Name). AreNamesIn text (x ∷ [])) (same_Some m n is) (h.0, h.1, tt)
one_in text (m ∷ ns) (suc i) n h is = one_in text ns i n h.2 is
