-- An expression without `\result` is typed as in a method that gives none.
use Rattle.std.proofs.Common.{◌≡◌, ℕ, Bool, true, false, List, Option, Some, None, refl, sym, ap, ◌∙◌}
use Rattle.std.specs.Prelude.{◌||◌}
use mathlib.Core.Path.{fun_ext}
use Rattle.kr_base.specs.declared.place.Place.{Place}
use Rattle.kr_ast.specs.declared.node.UnaryOperator.{UnaryOperator}
use Rattle.kr_ast.specs.Tree as trees
use Rattle.kr_ast.specs.Tree.{Tree}
use Rattle.kr_classes_table.specs.Types.{JavaType}
use Rattle.kr_classes_table.specs.Table.{applied, method_named}
use Rattle.kr_types_meaning.specs.Scopes.{Scope, value, in_old, written, class_before, meant, method_meant}
use Rattle.kr_types_meaning.specs.Rules.{Judgement, type_rule, array_rule, element_rule, call_rule, static_rule, super_rule, object_call_rule, creation_rule, array_creation_rule, unary_rule, operator_rule, choice_rule, cast_rule, instance_rule, assignment_rule, compound_rule, step_rule, access_rule, old_rule}
use Rattle.kr_types_meaning.specs.Typing.{Judged, judged, leaf, one, two, three, list, one_and_list, both, operand, field_of, method_of, type_in}
use Rattle.kr_laws_types.specs.DerivedExpressions.{IsWritten, IsCreated}
use Rattle.kr_laws_types.specs.Shapes.{Sort, Expression, Expressions, IsCode}
use Rattle.kr_laws_types.proofs.Expressions.{after_expression}
use Rattle.kr_run_method.specs.Results.{has_result, without_result}
use Rattle.kr_run_method.proofs.Scopes.{access_same, call_same, class_same, compound_same, creation_same, name_same, object_call_same, operand_same, operator_same, static_same, super_same}

pub neither : (a b : Bool) → (a || b) ≡ false → (a ≡ false) × (b ≡ false)
neither false b e = (refl, e)
neither true b e = absurd (cc (e))

-- ---- equal rules on equal parts

abbrev Rule : Type 0
Rule = JavaType → Judgement

one_by : (p : Place) (f g : Rule) {x y : Judged} → ((t : JavaType) → f t ≡ g t) → x ≡ y → one p f x ≡ one p g y
one_by p f g {x} {y} e h = ap (λ (k : Rule). one p k x) (fun_ext e) ∙ ap (λ (z : Judged). one p g z) h

two_by : (p : Place) (f g : JavaType → Rule) {x y u w : Judged} → ((t r : JavaType) → f t r ≡ g t r) → x ≡ y → u ≡ w → two p f x u ≡ two p g y w
two_by p f g {x} {y} {u} {w} e h k = ap (λ (z : JavaType → Rule). two p z x u) (fun_ext (λ t. fun_ext (e t))) ∙ (ap (λ (z : Judged). two p g z u) h ∙ ap (λ (z : Judged). two p g y z) k)

list_by : (p : Place) (f g : List JavaType → Judgement) {x y : Judged} → ((ts : List JavaType) → f ts ≡ g ts) → x ≡ y → list p f x ≡ list p g y
list_by p f g {x} {y} e h = ap (λ (k : List JavaType → Judgement). list p k x) (fun_ext e) ∙ ap (λ (z : Judged). list p g z) h

one_and_list_by : (p : Place) (f g : JavaType → List JavaType → Judgement) {x y u w : Judged} → ((t : JavaType) (ts : List JavaType) → f t ts ≡ g t ts) → x ≡ y → u ≡ w → one_and_list p f x u ≡ one_and_list p g y w
one_and_list_by p f g {x} {y} {u} {w} e h k = ap (λ (z : JavaType → List JavaType → Judgement). one_and_list p z x u) (fun_ext (λ t. fun_ext (e t))) ∙ (ap (λ (z : Judged). one_and_list p g z u) h ∙ ap (λ (z : Judged). one_and_list p g y z) k)

-- ---- types that are written out

written_same : (s : Scope) (t : Tree) → IsWritten t → judged (without_result s) t ≡ judged s t
unfolding judged
written_same s (trees.PrimitiveType p k) h = refl
written_same s (trees.NamedType p n) h = refl
written_same s (trees.QualifiedType p o n) h = refl
written_same s (trees.GenericType p n a) h = one_by p (λ t. type_rule (applied (written s n) t)) (λ t. type_rule (applied (written s n) t)) (λ t. refl) (written_same s a h.1)
written_same s (trees.ArrayType p e) h = one_by p array_rule array_rule (λ t. refl) (written_same s e h)
written_same s _ h = absurd h

created_same : (s : Scope) (t : Tree) → IsCreated t → judged (without_result s) t ≡ judged s t
unfolding judged
created_same s (trees.DiamondType p n) h = refl
created_same s (trees.PrimitiveType p k) h = written_same s (trees.PrimitiveType p k) h
created_same s (trees.NamedType p n) h = written_same s (trees.NamedType p n) h
created_same s (trees.QualifiedType p o n) h = written_same s (trees.QualifiedType p o n) h
created_same s (trees.GenericType p n a) h = written_same s (trees.GenericType p n a) h
created_same s (trees.ArrayType p e) h = written_same s (trees.ArrayType p e) h
created_same s _ h = absurd h

-- ---- expressions

abbrev are_expressions : Sort → Bool
are_expressions (Expression m) = true
are_expressions Expressions = true
are_expressions sort = false

accessed : (s : Scope) (p : Place) (n : List ℕ) (c : Option ℕ) {x y : Judged} → x ≡ y → field_of (without_result s) p n c x ≡ field_of s p n c y
accessed s p n (Some c) h = refl
accessed s p n None h = one_by p (access_rule (without_result s) n) (access_rule s n) (access_same s n) h

called : (s : Scope) (p : Place) (n : List ℕ) (c : Option ℕ) {x y xs ys : Judged} → x ≡ y → xs ≡ ys → method_of (without_result s) p n c x xs ≡ method_of s p n c y ys
called s p n (Some c) h k = list_by p (static_rule (without_result s) (method_named s.table c n)) (static_rule s (method_named s.table c n)) (static_same s (method_named s.table c n)) k
called s p n None h k = one_and_list_by p (object_call_rule (without_result s) n) (object_call_rule s n) (object_call_same s n) h k

module _ (arrays : List JavaType) (olds : Place → Option JavaType) where
  abbrev Same : Scope → Tree → Type 0
  Same s t = judged (without_result s) t ≡ judged s t

  chosen : (s : Scope) (p : Place) {x y u w k l : Judged} → x ≡ y → u ≡ w → k ≡ l → three p (choice_rule (without_result s)) x u k ≡ three p (choice_rule s) y w l
  chosen s p {x} {y} {u} {w} {k} {l} e f g = ap (λ (z : Judged). three p (choice_rule s) z u k) e ∙ (ap (λ (z : Judged). three p (choice_rule s) y z k) f ∙ ap (λ (z : Judged). three p (choice_rule s) y w z) g)

  -- the shape is known in some scope
  pub same : (sort : Sort) (s u : Scope) (t : Tree) → IsCode arrays olds sort u t → are_expressions sort ≡ true → has_result t ≡ false → Same s t
  unfolding judged
  same (Expression m) s u trees.Nil h i f = refl
  same (Expression m) s u (trees.Number p n) h i f = refl
  same (Expression m) s u (trees.LongNumber p n) h i f = refl
  same (Expression m) s u (trees.Truth p b) h i f = refl
  same (Expression m) s u (trees.Null p) h i f = refl
  same (Expression m) s u (trees.This p) h i f = refl
  same (Expression m) s u (trees.Variable p n) h i f = ap (λ (v : Judgement). leaf p v) (name_same s (meant s n))
  same (Expression m) s u (trees.FieldAccess p e n) h i f =
      ap (λ (c : Option ℕ). field_of (without_result s) p n c (judged (value (without_result s)) e)) (class_same s e) ∙ accessed s p n (class_before s e) (same (Expression false) (value s) u e h refl f)
  same (Expression m) s u (trees.ArrayAccess p a b) h i f =
      let k = neither (has_result a) (has_result b) f in
      two_by p element_rule element_rule (λ t r. refl) (same (Expression false) (value s) u a h.0 refl k.0) (same (Expression false) (value s) u b h.1 refl k.1)
  same (Expression m) s u (trees.Call p n es) h i f = list_by p (call_rule (without_result s) (method_meant s n)) (call_rule s (method_meant s n)) (call_same s (method_meant s n)) (same Expressions (value s) u es h refl f)
  same (Expression m) s u (trees.MethodCall p e n es) h i f =
      let k = neither (has_result e) (has_result es) f in
      ap (λ (c : Option ℕ). method_of (without_result s) p n c (judged (value (without_result s)) e) (judged (value (without_result s)) es)) (class_same s e)
      ∙ called s p n (class_before s e) (same (Expression false) (value s) u e h.0 refl k.0) (same Expressions (value s) u es h.1 refl k.1)
  same (Expression m) s u (trees.SuperCall p n es) h i f = list_by p (super_rule (without_result s) n) (super_rule s n) (super_same s n) (same Expressions (value s) u es h refl f)
  same (Expression m) s u (trees.ObjectCreation p t es) h i f = one_and_list_by p (creation_rule (without_result s)) (creation_rule s) (creation_same s) (created_same s t h.0) (same Expressions (value s) u es h.1 refl f)
  same (Expression m) s u (trees.ArrayCreation p t e) h i f = two_by p (array_creation_rule (without_result s)) (array_creation_rule s) (λ t r. refl) (written_same s t h.0) (same (Expression false) (value s) u e h.2 refl f)
  same (Expression m) s u (trees.Unary p o e) h i f = ap (λ (z : Scope). one p (unary_rule o) (judged z e)) (operand_same o s) ∙ one_by p (unary_rule o) (unary_rule o) (λ t. refl) (same (Expression false) (operand o s) u e h refl f)
  same (Expression m) s u (trees.Step p o e) h i f = ap (λ (x : Judged). one p (step_rule s x.typed) x) (same (Expression false) (value s) u e h refl f)
  same (Expression m) s u (trees.Binary p o a b) h i f =
      let k = neither (has_result a) (has_result b) f in
      two_by p (operator_rule (without_result s) o) (operator_rule s o) (operator_same s o) (same (Expression false) (value s) u a h.0 refl k.0) (same (Expression false) (value s) u b h.1 refl k.1)
  same (Expression m) s u (trees.InstanceOf p e t) h i f = two_by p (instance_rule (without_result s)) (instance_rule s) (λ t r. refl) (same (Expression false) (value s) u e h.0 refl f) (written_same s t h.1)
  same (Expression m) s u (trees.Conditional p c a b) h i f =
      let k = neither (has_result c) (has_result a || has_result b) f in
      let l = neither (has_result a) (has_result b) k.1 in
      chosen s p (same (Expression false) (value s) u c h.0 refl k.0) (same (Expression false) (value s) u a h.1 refl l.0) (same (Expression false) (value s) u b h.2 refl l.1)
  same (Expression m) s u (trees.Cast p t e) h i f = two_by p (cast_rule (without_result s)) (cast_rule s) (λ t r. refl) (written_same s t h.0) (same (Expression false) (value s) u e h.1 refl f)
  same (Expression m) s u (trees.Assignment p a b) h i f =
      let k = neither (has_result a) (has_result b) f in
      ap (λ (x : Judged). two p (assignment_rule s x.typed) x (judged (value (without_result s)) b)) (same (Expression false) (value s) u a h.0 refl k.0)
      ∙ two_by p (assignment_rule s (judged (value s) a).typed) (assignment_rule s (judged (value s) a).typed) (λ t r. refl) refl (same (Expression false) (value s) u b h.1 refl k.1)
  same (Expression m) s u (trees.CompoundAssignment p o a b) h i f =
      let k = neither (has_result a) (has_result b) f in
      ap (λ (x : Judged). two p (compound_rule (without_result s) o x.typed) x (judged (value (without_result s)) b)) (same (Expression false) (value s) u a h.1 refl k.0)
      ∙ two_by p (compound_rule (without_result s) o (judged (value s) a).typed) (compound_rule s o (judged (value s) a).typed) (compound_same s o (judged (value s) a).typed) refl (same (Expression false) (value s) u b h.2 refl k.1)
  same (Expression m) s u (trees.Result p) h i f = absurd (cc (f))
  same (Expression m) s u (trees.Old p e) h i f = one_by p (old_rule (without_result s)) (old_rule s) (λ t. refl) (same (Expression false) (in_old s) (in_old u) e h.1 refl f)
  same (Expression m) s u _ h i f = absurd h
  same Expressions s u trees.Nil h i f = refl
  same Expressions s u (trees.Cons a b) h i f =
      let k = neither (has_result a) (has_result b) f in
      ap (λ (z : Scope). both (judged (without_result s) a) (judged z b)) (after_expression arrays olds (without_result s) u false a h.0)
      ∙ (ap (λ (x : Judged). both x (judged (without_result s) b)) (same (Expression false) s u a h.0 refl k.0)
      ∙ (ap (λ (x : Judged). both (judged s a) x) (same Expressions s u b h.1 refl k.1) ∙ ap (λ (z : Scope). both (judged s a) (judged z b)) (sym (after_expression arrays olds s u false a h.0))))
  same Expressions s u _ h i f = absurd h
  same _ s u t h i f = absurd (cc (i))

  -- the type of a part
  pub type_same : (s u : Scope) (e : Tree) → IsCode arrays olds (Expression false) u e → has_result e ≡ false → type_in (judged (value (without_result s)) e).typed ≡ type_in (judged (value s) e).typed
  type_same s u e h f = ap (λ (x : Judged). type_in x.typed) (same (Expression false) (value s) u e h refl f)

  -- the type of a unary operator's operand
  pub operand_typed : (s u : Scope) (o : UnaryOperator) (e : Tree) → IsCode arrays olds (Expression false) u e → has_result e ≡ false → type_in (judged (operand o (without_result s)) e).typed ≡ type_in (judged (operand o s) e).typed
  operand_typed s u o e h f = ap (λ (z : Scope). type_in (judged z e).typed) (operand_same o s) ∙ ap (λ (x : Judged). type_in x.typed) (same (Expression false) (operand o s) u e h refl f)

  -- and it is code there
  pub code_same : (sort : Sort) (s : Scope) (t : Tree) → IsCode arrays olds sort s t → are_expressions sort ≡ true → has_result t ≡ false → IsCode arrays olds sort (without_result s) t
  code_same (Expression m) s trees.Nil h i f = h
  code_same (Expression m) s (trees.Number p n) h i f = tt
  code_same (Expression m) s (trees.LongNumber p n) h i f = tt
  code_same (Expression m) s (trees.Truth p b) h i f = tt
  code_same (Expression m) s (trees.Null p) h i f = tt
  code_same (Expression m) s (trees.This p) h i f = tt
  code_same (Expression m) s (trees.Variable p n) h i f = tt
  code_same (Expression m) s (trees.FieldAccess p e n) h i f = code_same (Expression false) s e h refl f
  code_same (Expression m) s (trees.ArrayAccess p a b) h i f =
      let k = neither (has_result a) (has_result b) f in
      (code_same (Expression false) s a h.0 refl k.0, code_same (Expression false) s b h.1 refl k.1)
  code_same (Expression m) s (trees.Call p n es) h i f = code_same Expressions s es h refl f
  code_same (Expression m) s (trees.MethodCall p e n es) h i f =
      let k = neither (has_result e) (has_result es) f in
      (code_same (Expression false) s e h.0 refl k.0, code_same Expressions s es h.1 refl k.1)
  code_same (Expression m) s (trees.SuperCall p n es) h i f = code_same Expressions s es h refl f
  code_same (Expression m) s (trees.ObjectCreation p t es) h i f = (h.0, code_same Expressions s es h.1 refl f)
  code_same (Expression m) s (trees.ArrayCreation p t e) h i f = (h.0, h.1, code_same (Expression false) s e h.2 refl f)
  code_same (Expression m) s (trees.Unary p o e) h i f = code_same (Expression false) s e h refl f
  code_same (Expression m) s (trees.Step p o e) h i f = code_same (Expression false) s e h refl f
  code_same (Expression m) s (trees.Binary p o a b) h i f =
      let k = neither (has_result a) (has_result b) f in
      (code_same (Expression false) s a h.0 refl k.0, code_same (Expression false) s b h.1 refl k.1)
  code_same (Expression m) s (trees.InstanceOf p e t) h i f = (code_same (Expression false) s e h.0 refl f, h.1)
  code_same (Expression m) s (trees.Conditional p c a b) h i f =
      let k = neither (has_result c) (has_result a || has_result b) f in
      let l = neither (has_result a) (has_result b) k.1 in
      (code_same (Expression false) s c h.0 refl k.0, code_same (Expression false) s a h.1 refl l.0, code_same (Expression false) s b h.2 refl l.1)
  code_same (Expression m) s (trees.Cast p t e) h i f = (h.0, code_same (Expression false) s e h.1 refl f)
  code_same (Expression m) s (trees.Assignment p a b) h i f =
      let k = neither (has_result a) (has_result b) f in
      (code_same (Expression false) s a h.0 refl k.0, code_same (Expression false) s b h.1 refl k.1)
  code_same (Expression m) s (trees.CompoundAssignment p o a b) h i f =
      let k = neither (has_result a) (has_result b) f in
      (h.0, code_same (Expression false) s a h.1 refl k.0, code_same (Expression false) s b h.2 refl k.1)
  code_same (Expression m) s (trees.Result p) h i f = tt
  code_same (Expression m) s (trees.Old p e) h i f = (λ q. h.0 q ∙ sym (ap (λ (x : Judged). type_in x.typed) (same (Expression false) (in_old s) (in_old s) e h.1 refl f)), code_same (Expression false) (in_old s) e h.1 refl f)
  code_same (Expression m) s _ h i f = absurd h
  code_same Expressions s trees.Nil h i f = tt
  code_same Expressions s (trees.Cons a b) h i f =
      let k = neither (has_result a) (has_result b) f in
      (code_same (Expression false) s a h.0 refl k.0, code_same Expressions s b h.1 refl k.1)
  code_same Expressions s _ h i f = absurd h
  code_same _ s t h i f = absurd (cc (i))
