use Rattle.std.proofs.Common.{◌≡◌, refl, ap, ◌∙◌, ℕ, List, [], ◌∷◌, map, codes}
use Rattle.kr_ast.specs.Arena.{Arena, root}
use Rattle.kr_classes_table.specs.Table.{headings_of, number_of, table_of}
use Rattle.kr_classes_table.specs.Types.{JavaType}
use Rattle.kr_mean.specs.Thrown.{class_by_name}
use Rattle.kr_code_bodies.specs.Tabled.{program_in}
use Rattle.kr_code_bodies.proofs.trap_classes.trap_classes.Goals as goal

by_heads : (files : List Arena) (arrays : List JavaType) (n : List ℕ) → number_of (headings_of (map root files)) n ≡ class_by_name (program_in files arrays) n
unfolding table_of
by_heads files arrays n = refl

six_same : {A : Type 0} (a b c d e f u v w x y z : A) → a ≡ u → b ≡ v → c ≡ w → d ≡ x → e ≡ y → f ≡ z → a ∷ b ∷ c ∷ d ∷ e ∷ f ∷ [] ≡ u ∷ v ∷ w ∷ x ∷ y ∷ z ∷ []
six_same a b c d e f u v w x y z p q r s t o = cc

pub returns : goal.returns
returns c = λ files arrays heads.
    let named = λ (n : List ℕ). number_of (headings_of (map root files)) n in
    let found = λ (n : List ℕ). class_by_name (program_in files arrays) n in
    c.in_ok-vec.ensures.items
    ∙ six_same c.number_of.result c.number_of-2.result c.number_of-3.result c.number_of-4.result c.number_of-5.result c.number_of-6.result (found (codes "NullPointerException")) (found (codes "ArithmeticException")) (found (codes "ArrayIndexOutOfBoundsException"))
    (found (codes "NegativeArraySizeException")) (found (codes "ClassCastException")) (found (codes "NoSuchElementException"))
    (c.number_of.ensures files heads ∙ (ap named c.as_slice.ensures ∙ by_heads files arrays (codes "NullPointerException")))
    (c.number_of-2.ensures files heads ∙ (ap named c.as_slice-2.ensures ∙ by_heads files arrays (codes "ArithmeticException")))
    (c.number_of-3.ensures files heads ∙ (ap named c.as_slice-3.ensures ∙ by_heads files arrays (codes "ArrayIndexOutOfBoundsException")))
    (c.number_of-4.ensures files heads ∙ (ap named c.as_slice-4.ensures ∙ by_heads files arrays (codes "NegativeArraySizeException")))
    (c.number_of-5.ensures files heads ∙ (ap named c.as_slice-5.ensures ∙ by_heads files arrays (codes "ClassCastException")))
    (c.number_of-6.ensures files heads ∙ (ap named c.as_slice-6.ensures ∙ by_heads files arrays (codes "NoSuchElementException")))
