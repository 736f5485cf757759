-- Constants have the values in the larger table that they have in the other.
use Rattle.std.proofs.Common.{◌≡◌, refl, ap, ◌∙◌, ℕ, Bool, true, false, ◌&&◌, List, [], ◌∷◌, ◌++◌, Option, Some, None}
use Rattle.std.specs.Prelude.{flat_map, fold, option_and_then, option_map, is_none, is_some, if◌then◌else◌}
use Rattle.kr_ast.specs.Tree as trees
use Rattle.kr_ast.specs.Tree.{Tree}
use Rattle.kr_classes_table.specs.Numbers.{wider}
use Rattle.kr_classes_table.specs.Operators.{operator_width}
use Rattle.kr_classes_table.specs.Table.{Table, Field, number_of, field_named}
use Rattle.kr_classes_table.specs.Constants.{Known, constant_only, constant_of, class_meant, field_meant, known_value, field_width, constant_width, is_constant, evaluated, unary_value, binary_value, chosen, cast_value, number_width, is_primitive, known_as, with_constant, in_order, constants_in, values_of}
use Rattle.kr_emit_laws.specs.Larger.{IsLarger}

module _ (t u : Table) (w : List ℕ) (g : IsLarger t u w) (meant_alike : (c : ℕ) (n : List ℕ) → field_meant u c n ≡ field_meant t c n) where
  constant_kept : (n : List ℕ) (x y : Option ℕ) → ((c : ℕ) → x ≡ Some c → y ≡ Some c) → ((k : ℕ) → x ≡ None → y ≡ Some k → field_named u k n ≡ None) → constant_of u y n ≡ constant_of t x n
  constant_kept n (Some c) y f h = ap (λ z. constant_of u z n) (f c refl) ∙ ap (option_and_then constant_only) (g.fields c n)
  constant_kept n None None f h = refl
  constant_kept n None (Some k) f h = ap (option_and_then constant_only) (h k refl refl)

  meant_constant : (c : ℕ) (e : Tree) (n : List ℕ) → constant_of u (class_meant u c e) n ≡ constant_of t (class_meant t c e) n
  meant_constant c (trees.Variable p m) n =
      ap (λ z. constant_of u (if is_none z then number_of u.headings m else None) n) (meant_alike c m) ∙ go (is_none (field_meant t c m))
    where
      go : (b : Bool) → constant_of u (if b then number_of u.headings m else None) n ≡ constant_of t (if b then number_of t.headings m else None) n
      go true = constant_kept n (number_of t.headings m) (number_of u.headings m) (g.names.kept m) (λ k p q. g.fresh m k n p q)
      go false = refl
  meant_constant c e n = refl

  width_same : (c : ℕ) (e : Tree) → constant_width u c e ≡ constant_width t c e
  unfolding constant_width
  width_same c (trees.Variable p n) = ap field_width (meant_alike c n)
  width_same c (trees.FieldAccess p e n) = ap field_width (meant_constant c e n)
  width_same c (trees.Unary p o e) = width_same c e
  width_same c (trees.Binary p o a b) = ap (λ z. operator_width o z (constant_width u c b)) (width_same c a) ∙ ap (operator_width o (constant_width t c a)) (width_same c b)
  width_same c (trees.Conditional p e a b) = ap (λ z. wider z (constant_width u c b)) (width_same c a) ∙ ap (wider (constant_width t c a)) (width_same c b)
  width_same c e = refl

  constant_same : (known : List Known) (c : ℕ) (e : Tree) → is_constant u known c e ≡ is_constant t known c e
  unfolding is_constant
  constant_same known c (trees.Variable p n) = ap (λ z. is_some (known_value known z)) (meant_alike c n)
  constant_same known c (trees.FieldAccess p e n) = ap (λ z. is_some (known_value known z)) (meant_constant c e n)
  constant_same known c (trees.Unary p o e) = constant_same known c e
  constant_same known c (trees.Binary p o a b) = ap (λ z. z && is_constant u known c b) (constant_same known c a) ∙ ap (λ z. is_constant t known c a && z) (constant_same known c b)
  constant_same known c (trees.Conditional p e a b) =
      ap (λ z. z && is_constant u known c a && is_constant u known c b) (constant_same known c e)
      ∙ (ap (λ z. is_constant t known c e && z && is_constant u known c b) (constant_same known c a) ∙ ap (λ z. is_constant t known c e && is_constant t known c a && z) (constant_same known c b))
  constant_same known c (trees.Cast p k e) = ap (λ z. is_primitive k && z) (constant_same known c e)
  constant_same known c e = refl

  evaluated_same : (known : List Known) (c : ℕ) (e : Tree) → evaluated u known c e ≡ evaluated t known c e
  unfolding evaluated
  evaluated_same known c (trees.Variable p n) = ap (known_value known) (meant_alike c n)
  evaluated_same known c (trees.FieldAccess p e n) = ap (known_value known) (meant_constant c e n)
  evaluated_same known c (trees.Unary p o e) =
      ap (λ z. option_and_then (unary_value z o) (evaluated u known c e)) (width_same c e) ∙ ap (option_and_then (unary_value (constant_width t c e) o)) (evaluated_same known c e)
  evaluated_same known c (trees.Binary p o a b) =
      ap (λ z. binary_value (operator_width o z (constant_width u c b)) o (evaluated u known c a) (evaluated u known c b)) (width_same c a)
      ∙ (ap (λ z. binary_value (operator_width o (constant_width t c a) z) o (evaluated u known c a) (evaluated u known c b)) (width_same c b)
      ∙ (ap (λ z. binary_value (operator_width o (constant_width t c a) (constant_width t c b)) o z (evaluated u known c b)) (evaluated_same known c a)
      ∙ ap (λ z. binary_value (operator_width o (constant_width t c a) (constant_width t c b)) o (evaluated t known c a) z) (evaluated_same known c b)))
  evaluated_same known c (trees.Conditional p e a b) =
      ap (λ z. chosen z (evaluated u known c a) (evaluated u known c b)) (evaluated_same known c e)
      ∙ (ap (λ z. chosen (evaluated t known c e) z (evaluated u known c b)) (evaluated_same known c a) ∙ ap (λ z. chosen (evaluated t known c e) (evaluated t known c a) z) (evaluated_same known c b))
  evaluated_same known c (trees.Cast p k e) = ap (option_map (cast_value (number_width k))) (evaluated_same known c e)
  evaluated_same known c e = refl

  with_same : (known : List Known) (f : Field) → with_constant u known f ≡ with_constant t known f
  with_same known f =
      ap (λ z. if z then known ++ known_as f.place (evaluated u known f.class f.initial) else known) (constant_same known f.class f.initial)
      ∙ ap (λ z. if is_constant t known f.class f.initial then known ++ known_as f.place z else known) (evaluated_same known f.class f.initial)

  fold_same : (known : List Known) (fs : List Field) → fold (with_constant u) known fs ≡ fold (with_constant t) known fs
  fold_same known [] = refl
  fold_same known (f ∷ fs) = ap (λ z. fold (with_constant u) z fs) (with_same known f) ∙ fold_same (with_constant t known f) fs

  pub values_same : flat_map constants_in u.classes ≡ flat_map constants_in t.classes → values_of u ≡ values_of t
  unfolding values_of
  values_same e = ap (λ z. fold (with_constant u) [] (in_order z)) e ∙ fold_same [] (in_order (flat_map constants_in t.classes))
