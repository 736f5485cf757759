-- An expression without `\result` runs as in a method that gives none.
use Rattle.std.proofs.Common.{◌≡◌, ℕ, zero, suc, Bool, true, false, List, ◌∷◌, Option, Some, None, refl, sym, ap, ◌∙◌}
use Rattle.std.specs.Prelude.{◌||◌, option_and_then, if◌then◌else◌}
use Rattle.kr_base.specs.declared.place.Place.{Place}
use Rattle.kr_ast.specs.declared.node.UnaryOperator.{UnaryOperator}
use Rattle.kr_ast.specs.declared.node.BinaryOperator.{BinaryOperator}
use Rattle.kr_ast.specs.Tree as trees
use Rattle.kr_ast.specs.Tree.{Tree}
use Rattle.kr_value.specs.declared.value.Value.{Value}
use Rattle.kr_classes_table.specs.Types.{JavaType, ArrayType}
use Rattle.kr_classes_table.specs.Table.{Field, Method, items, method_named}
use Rattle.kr_types_meaning.specs.Scopes.{Scope, Meant, LocalName, FieldName, NoName, written, meant, class_before, static_only, method_meant}
use Rattle.kr_types_meaning.specs.Typing.{type_of}
use Rattle.kr_mean.specs.Program.{Program}
use Rattle.kr_mean.specs.Steps.{State, Run, say, give, ◌>>=◌, ◌>>◌, tick, get_this, load_field, element, class_or_null, store, store_element}
use Rattle.kr_classes_table.specs.Numbers.{Width}
use Rattle.kr_classes_table.specs.Operators.{operator_width}
use Rattle.kr_mean.specs.declared.operations.BinaryOperation.{BinaryOperation}
use Rattle.kr_mean.specs.Operators.{operated_alone, compound_operation, unary_operation, step_operation}
use Rattle.kr_mean.specs.Meaning.{Parts, Target, LocalTarget, OwnField, FieldOf, ElementOf, NoTarget, Change, choose, values_of, read_name, access, field_of_type, typed_field, method_of_type, typed_method, run_method, own_call, called, method_call, super_method, create, create_array, name_target, field_target, element_target, target_of, assigned, changed, compound, stepped, binary, cast, is_primitive, instance, type_width, width_at, width_of, operand_width, primitive_cast, value_of, parts_within, eval, value}
use Rattle.kr_laws_types.specs.Shapes.{Expression, Expressions, IsCode}
use Rattle.kr_laws_types.proofs.Expressions.{after_expression}
use Rattle.kr_run_method.specs.Results.{has_result, without_result}
use Rattle.kr_run_method.proofs.Scopes.{class_same}
use Rattle.kr_run_method.proofs.Typing.{neither, type_same, operand_typed}

-- one run and then another, and what is done with what both give
abbrev both_then : {A B C : Type 0} → (A → B → Run C) → Run A → Run B → Run C
both_then f m n = m >>= (λ a. n >>= (λ b. f a b))

both_by : {A B C : Type 0} (f : A → B → Run C) {m m' : Run A} {n n' : Run B} → m ≡ m' → n ≡ n' → both_then f m n ≡ both_then f m' n'
both_by {A} {B} {C} f {m} {m'} {n} {n'} e h = ap (λ (z : Run A). both_then f z n) e ∙ ap (λ (z : Run B). both_then f m' z) h

module _ (arrays : List JavaType) (olds : Place → Option JavaType) (program : Program) where
  -- code without `\result`
  abbrev IsFree : Scope → Tree → Type 0
  IsFree u e = IsCode arrays olds (Expression false) u e × (has_result e ≡ false)

  abbrev pub Same : Parts → Type 0
  Same parts = (s u : Scope) (e : Tree) → IsFree u e → parts.value (without_result s) e ≡ parts.value s e

  two_free : (u : Scope) (a b : Tree) → IsCode arrays olds (Expression false) u a → IsCode arrays olds (Expression false) u b → (has_result a || has_result b) ≡ false → IsFree u a × IsFree u b
  two_free u a b h i f = let k = neither (has_result a) (has_result b) f in ((h, k.0), (i, k.1))

  names_same : (s : Scope) (m : Meant) → read_name program (without_result s) m ≡ read_name program s m
  names_same s (LocalName k t) = refl
  names_same s (FieldName f) = refl
  names_same s NoName = refl

  -- ---- targets

  abbrev IsFreeTarget : Scope → Target → Type 0
  IsFreeTarget u (FieldOf e f) = IsFree u e
  IsFreeTarget u (ElementOf a i t) = IsFree u a × IsFree u i
  IsFreeTarget u _ = Unit {0}

  name_free : (u : Scope) (m : Meant) → IsFreeTarget u (name_target m)
  name_free u (LocalName k t) = tt
  name_free u (FieldName f) = go f.is_static
    where
      go : (b : Bool) → IsFreeTarget u (if b then NoTarget else OwnField f)
      go true = tt
      go false = tt
  name_free u NoName = tt

  field_free : (u : Scope) (e : Tree) (f : Option Field) → IsFree u e → IsFreeTarget u (field_target e f)
  field_free u e (Some f) h = h
  field_free u e None h = tt

  element_free : (u : Scope) (a i : Tree) (t : Option JavaType) → IsFree u a → IsFree u i → IsFreeTarget u (element_target a i t)
  element_free u a i (Some (ArrayType t)) h k = (h, k)
  element_free u a i _ h k = tt

  target_free : (s u : Scope) (t : Tree) → IsFree u t → IsFreeTarget u (target_of s t)
  target_free s u (trees.Variable p n) h = name_free u (meant s n)
  target_free s u (trees.FieldAccess p e n) h = field_free u e (typed_field s e n) (h.0, h.1)
  target_free s u (trees.ArrayAccess p a i) h = let k = two_free u a i h.0.0 h.0.1 h.1 in element_free u a i (type_of s a) k.0 k.1
  target_free s u _ h = tt

  typed_same : (s u : Scope) (e : Tree) → IsFree u e → type_of (without_result s) e ≡ type_of s e
  typed_same s u e h = type_same arrays olds s u e h.0 h.1

  -- so are the widths of numbers
  width_same : (s u : Scope) (e : Tree) → IsFree u e → width_at (without_result s) e ≡ width_at s e
  width_same s u e h = ap type_width (typed_same s u e h)

  widths_same : (s u : Scope) (o : BinaryOperator) (a b : Tree) → IsFree u a → IsFree u b → width_of (without_result s) o a b ≡ width_of s o a b
  widths_same s u o a b h k = ap (λ (w : Width). operator_width o w (width_at (without_result s) b)) (width_same s u a h) ∙ ap (λ (w : Width). operator_width o (width_at s a) w) (width_same s u b k)

  operand_wide : (s u : Scope) (o : UnaryOperator) (e : Tree) → IsFree u e → operand_width (without_result s) o e ≡ operand_width s o e
  operand_wide s u o e h = ap type_width (operand_typed arrays olds s u o e h.0 h.1)

  target_same : (s u : Scope) (t : Tree) → IsFree u t → target_of (without_result s) t ≡ target_of s t
  target_same s u (trees.Variable p n) h = refl
  target_same s u (trees.FieldAccess p e n) h = ap (λ (t : Option JavaType). field_target e (field_of_type s.table n t)) (typed_same s u e (h.0, h.1))
  target_same s u (trees.ArrayAccess p a i) h = ap (λ (t : Option JavaType). element_target a i t) (typed_same s u a (two_free u a i h.0.0 h.0.1 h.1).0)
  target_same s u _ h = refl

  -- ---- nodes, by what their parts do

  module _ (parts : Parts) (same : Same parts) where
    values_same : (s u : Scope) (es : Tree) → IsCode arrays olds Expressions u es → has_result es ≡ false → values_of parts (without_result s) (items es) ≡ values_of parts s (items es)
    values_same s u trees.Nil h f = refl
    values_same s u (trees.Cons a b) h f =
        let k = neither (has_result a) (has_result b) f in
        let put : Value → List Value → Run (List Value) = λ v vs. give (v ∷ vs) in
        ap (λ (z : Scope). both_then put (parts.value (without_result s) a) (values_of parts z (items b))) (after_expression arrays olds (without_result s) u false a h.0)
        ∙ (both_by put (same s u a (h.0, k.0)) (values_same s u b h.1 k.1) ∙ ap (λ (z : Scope). both_then put (parts.value s a) (values_of parts z (items b))) (sym (after_expression arrays olds s u false a h.0)))
    values_same s u _ h f = absurd h

    assigned_same : (s u : Scope) (t : Target) → IsFreeTarget u t → (m : Run Value) → assigned program parts (without_result s) t m ≡ assigned program parts s t m
    assigned_same s u (LocalTarget k) h m = refl
    assigned_same s u (OwnField f) h m = refl
    assigned_same s u (FieldOf e f) h m = ap (λ (z : Run Value). z >>= (λ o. m >>= (λ v. store program f o v >> give v))) (same s u e h)
    assigned_same s u (ElementOf a i t) h m = both_by (λ o j. m >>= (λ v. store_element program t o j v >> give v)) (same s u a h.0) (same s u i h.1)
    assigned_same s u NoTarget h m = refl

    changed_same : (s u : Scope) (t : Target) → IsFreeTarget u t → (f : Value → Run Change) → changed program parts (without_result s) t f ≡ changed program parts s t f
    changed_same s u (LocalTarget k) h f = refl
    changed_same s u (OwnField g) h f = refl
    changed_same s u (FieldOf e g) h f = ap (λ (z : Run Value). z >>= (λ o. load_field program g.name o >>= (λ v. f v >>= (λ c. store program g o c.new >> give c.given)))) (same s u e h)
    changed_same s u (ElementOf a i t) h f = both_by (λ o j. element o j >>= (λ v. f v >>= (λ c. store_element program t o j c.new >> give c.given))) (same s u a h.0) (same s u i h.1)
    changed_same s u NoTarget h f = refl

    accessed : (s u : Scope) (e : Tree) (n : List ℕ) (c : Option ℕ) → IsFree u e → access program parts (without_result s) e n c ≡ access program parts s e n c
    accessed s u e n (Some c) h = refl
    accessed s u e n None h = ap (λ (z : Run Value). z >>= load_field program n) (same s u e h)

    method_same : (s u : Scope) (e : Tree) (n : List ℕ) → IsFree u e → typed_method (without_result s) e n ≡ typed_method s e n
    method_same s u e n h = ap (λ (t : Option JavaType). method_of_type s.table n t) (typed_same s u e h)

    calls_same : (s u : Scope) (e : Tree) (n : List ℕ) (es : Tree) (c : Option ℕ) → IsFree u e → IsCode arrays olds Expressions u es → has_result es ≡ false → method_call program parts (without_result s) e n (items es) c ≡ method_call program parts s e n (items es) c
    calls_same s u e n es (Some c) h i f = ap (λ (z : Run (List Value)). z >>= (λ vs. run_method program parts Rattle.kr_value.specs.declared.value.Value.TheVariants.Null vs (option_and_then static_only (method_named s.table c n)))) (values_same s u es i f)
    calls_same s u e n es None h i f =
        ap (λ (m : Option Method). both_then (λ o vs. called program parts n o vs m) (parts.value (without_result s) e) (values_of parts (without_result s) (items es))) (method_same s u e n h)
        ∙ both_by (λ o vs. called program parts n o vs (typed_method s e n)) (same s u e h) (values_same s u es i f)

    binary_same : (width : Width) (o : BinaryOperator) {m m' n n' : Run Value} → m ≡ m' → n ≡ n' → binary width o m n ≡ binary width o m' n'
    binary_same width o {m} {m'} {n} {n'} e h = ap (λ (z : Run Value). binary width o z n) e ∙ ap (λ (z : Run Value). binary width o m' z) h

    chosen_same : {c c' m m' n n' : Run Value} → c ≡ c' → m ≡ m' → n ≡ n' → (c >>= (λ v. choose v m n)) ≡ (c' >>= (λ v. choose v m' n'))
    chosen_same {c} {c'} {m} {m'} {n} {n'} e f g = ap (λ (z : Run Value). z >>= (λ v. choose v m n)) e ∙ (ap (λ (z : Run Value). c' >>= (λ v. choose v z n)) f ∙ ap (λ (z : Run Value). c' >>= (λ v. choose v m' z)) g)

    assigned_to : (s u : Scope) (a e : Tree) → IsFree u a → IsFree u e → assigned program parts (without_result s) (target_of (without_result s) a) (parts.value (without_result s) e) ≡ assigned program parts s (target_of s a) (parts.value s e)
    assigned_to s u a e h k =
        ap (λ (t : Target). assigned program parts (without_result s) t (parts.value (without_result s) e)) (target_same s u a h)
        ∙ (assigned_same s u (target_of s a) (target_free s u a h) (parts.value (without_result s) e) ∙ ap (λ (z : Run Value). assigned program parts s (target_of s a) z) (same s u e k))

    changed_to : (s u : Scope) (a : Tree) (f f' : Value → Run Change) → IsFree u a → f ≡ f' → changed program parts (without_result s) (target_of (without_result s) a) f ≡ changed program parts s (target_of s a) f'
    changed_to s u a f f' h e =
        ap (λ (t : Target). changed program parts (without_result s) t f) (target_same s u a h)
        ∙ (changed_same s u (target_of s a) (target_free s u a h) f ∙ ap (λ (z : Value → Run Change). changed program parts s (target_of s a) z) e)

    value_same : (s u : Scope) (e : Tree) → IsCode arrays olds (Expression false) u e → has_result e ≡ false → value_of program parts (without_result s) e ≡ value_of program parts s e
    value_same s u trees.Nil h f = refl
    value_same s u (trees.Number p n) h f = refl
    value_same s u (trees.LongNumber p n) h f = refl
    value_same s u (trees.Truth p b) h f = refl
    value_same s u (trees.Null p) h f = refl
    value_same s u (trees.This p) h f = refl
    value_same s u (trees.Variable p n) h f = names_same s (meant s n)
    value_same s u (trees.FieldAccess p e n) h f = ap (λ (c : Option ℕ). access program parts (without_result s) e n c) (class_same s e) ∙ accessed s u e n (class_before s e) (h, f)
    value_same s u (trees.ArrayAccess p a i) h f = let k = two_free u a i h.0 h.1 f in both_by (λ o j. element o j) (same s u a k.0) (same s u i k.1)
    value_same s u (trees.Call p n es) h f = ap (λ (z : Run (List Value)). z >>= (λ vs. own_call program parts vs (method_meant s n))) (values_same s u es h f)
    value_same s u (trees.MethodCall p e n es) h f =
        let k = neither (has_result e) (has_result es) f in
        ap (λ (c : Option ℕ). method_call program parts (without_result s) e n (items es) c) (class_same s e) ∙ calls_same s u e n es (class_before s e) (h.0, k.0) h.1 k.1
    value_same s u (trees.SuperCall p n es) h f = ap (λ (z : Run (List Value)). get_this >>= (λ o. z >>= (λ vs. run_method program parts o vs (super_method s n)))) (values_same s u es h f)
    value_same s u (trees.ObjectCreation p t es) h f = ap (λ (z : Run (List Value)). z >>= (λ vs. create program parts (written s t) vs)) (values_same s u es h.1 f)
    value_same s u (trees.ArrayCreation p t e) h f = ap (λ (z : Run Value). z >>= (λ n. create_array program (written s t) n)) (same s u e (h.2, f))
    value_same s u (trees.Unary p o e) h f =
        ap (λ (w : Width). parts.value (without_result s) e >>= (λ v. say (operated_alone (unary_operation w o) v))) (operand_wide s u o e (h, f))
        ∙ ap (λ (z : Run Value). z >>= (λ v. say (operated_alone (unary_operation (operand_width s o e) o) v))) (same s u e (h, f))
    value_same s u (trees.Step p o e) h f =
        changed_to s u e (stepped (step_operation (width_at (without_result s) e) o)) (stepped (step_operation (width_at s e) o)) (h, f) (ap (λ (w : Width). stepped (step_operation w o)) (width_same s u e (h, f)))
    value_same s u (trees.Binary p o a b) h f =
        let k = two_free u a b h.0 h.1 f in
        ap (λ (w : Width). binary w o (parts.value (without_result s) a) (parts.value (without_result s) b)) (widths_same s u o a b k.0 k.1) ∙ binary_same (width_of s o a b) o (same s u a k.0) (same s u b k.1)
    value_same s u (trees.InstanceOf p e t) h f = ap (λ (z : Run Value). z >>= (λ v. class_or_null v >>= (λ class. give (instance program (written s t) class)))) (same s u e (h.0, f))
    value_same s u (trees.Conditional p c a b) h f =
        let k = neither (has_result c) (has_result a || has_result b) f in
        let l = two_free u a b h.1 h.2 k.1 in
        chosen_same (same s u c (h.0, k.0)) (same s u a l.0) (same s u b l.1)
    value_same s u (trees.Cast p t e) h f = ap (λ (z : Run Value). if is_primitive t then primitive_cast (written s t) z else (z >>= (λ v. class_or_null v >>= (λ class. cast program (written s t) v class)))) (same s u e (h.1, f))
    value_same s u (trees.Assignment p a e) h f = let k = two_free u a e h.0 h.1 f in assigned_to s u a e k.0 k.1
    value_same s u (trees.CompoundAssignment p o a e) h f =
        let k = two_free u a e h.1 h.2 f in
        let c = compound_operation (width_at (without_result s) a) (width_of (without_result s) o a e) o in
        let d = compound_operation (width_at s a) (width_of s o a e) o in
        let same_width : c ≡ d = ap (λ (w : Width). compound_operation w (width_of (without_result s) o a e) o) (width_same s u a k.0) ∙ ap (λ (w : Width). compound_operation (width_at s a) w o) (widths_same s u o a e k.0 k.1) in
        changed_to s u a (compound c (parts.value (without_result s) e)) (compound d (parts.value s e)) k.0
        (ap (λ (x : BinaryOperation). compound x (parts.value (without_result s) e)) same_width ∙ ap (λ (z : Run Value). compound d z) (same s u e k.1))
    value_same s u (trees.Result p) h f = absurd (cc (f))
    value_same s u (trees.Old p e) h f = refl
    value_same s u _ h f = absurd h

  -- ---- whole expressions

  eval_same : (n : ℕ) → Same (parts_within program n)
  unfolding eval
  eval_same zero s u e h = refl
  eval_same (suc n) s u e h = ap (λ (z : Run Value). tick >> z) (value_same (parts_within program n) (eval_same n) s u e h.0 h.1)

  pub runs_same : (s : Scope) (e : Tree) (state : State) → IsCode arrays olds (Expression false) s e → has_result e ≡ false → value program (without_result s) e state ≡ value program s e state
  unfolding value
  runs_same s e state h f = ap (λ (z : Run Value). z state) (eval_same state.fuel s s e (h, f))
