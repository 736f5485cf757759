-- Fields with their initial values, in a scope that has the declaration.
use Rattle.std.proofs.Common.{◌≡◌, refl, sym, ap, ◌∙◌, subst, inl, inr, ℕ, Bool, true, false, ◌||◌, List, [], ◌∷◌, Option, Some, None}
use Rattle.std.specs.Prelude.{is_some, ◌&&◌, flat_map, not, if◌then◌else◌}
use Rattle.kr_classes_table.specs.Constants.{value_at}
use Rattle.kr_base.specs.declared.place.Place.{Place}
use Rattle.kr_ast.specs.declared.node.UnaryOperator.TheVariants as unaries
use Rattle.kr_ast.specs.Tree as trees
use Rattle.kr_ast.specs.Tree.{Tree}
use Rattle.kr_classes_table.specs.Types.{JavaType, is_known}
use Rattle.kr_classes_table.specs.Table.{Field, items, declared_in, fields_in, is_assignable}
use Rattle.kr_types_meaning.specs.Scopes.{Scope, Fields, Constants, written, value, in_old, under_minus, static_if, declaring, class_before}
use Rattle.kr_types_meaning.specs.Rules as rules
use Rattle.kr_types_meaning.specs.Rules.{Typed, Judgement, Fits, ask, fine, initial_fits, declaration_rule, unary_rule, operator_rule, choice_rule, cast_rule, instance_rule, assignment_rule, compound_rule, step_rule, element_rule, call_rule, super_rule, creation_rule, array_creation_rule, old_rule}
use Rattle.kr_types_meaning.specs.Typing.{Judged, judge, on_maybe, one, two, three, list, one_and_list, both, field_of, method_of, judged, type_in}
use Rattle.kr_types_meaning.specs.Running.{elsewhere}
use Rattle.kr_laws_types.specs.Derivation.{AreDeclarators, IsMember}
use Rattle.kr_laws_types.specs.Types.{is_variable_type}
use Rattle.kr_laws_types.specs.Shapes.{Sort, Expression, Expressions, IsCode}
use Rattle.kr_laws_types.specs.DerivedExpressions.{IsCreated, IsWritten}
use Rattle.kr_laws_types.proofs.Given.{variable_known}
use Rattle.kr_laws_types.proofs.Expressions.{after_expression}
use Rattle.kr_mean.specs.Purity.{IsOneOf}
use Rattle.kr_laws_safety.proofs.Glue.{kept}
use Rattle.kr_laws_never_stuck.proofs.Members.{type_variable}
use Rattle.kr_laws_types.proofs.Typed.{below_none}
use Rattle.kr_base.proofs.ListLemmas.{append_is_nil}

-- ---- expressions don't depend on the declaration

-- nor to a type
written_same : (s : Scope) (t : Tree) → IsWritten t → judged (elsewhere false s) t ≡ judged s t
unfolding judged
written_same s (trees.PrimitiveType p k) h = refl
written_same s (trees.NamedType p n) h = refl
written_same s (trees.QualifiedType p o n) h = refl
written_same s (trees.GenericType p k a) h = ap (λ (x : Judged). one p (λ t. rules.type_rule (Rattle.kr_classes_table.specs.Table.applied (written s k) t)) x) (written_same s a h.1)
written_same s (trees.ArrayType p e) h = ap (λ (x : Judged). one p rules.array_rule x) (written_same s e h)
written_same s _ h = absurd h

made_same : (s : Scope) (t : Tree) → IsCreated t → judged (elsewhere false s) t ≡ judged s t
unfolding judged
made_same s (trees.DiamondType p k) h = refl
made_same s (trees.PrimitiveType p k) h = written_same s (trees.PrimitiveType p k) h
made_same s (trees.NamedType p n) h = written_same s (trees.NamedType p n) h
made_same s (trees.QualifiedType p o n) h = written_same s (trees.QualifiedType p o n) h
made_same s (trees.GenericType p k a) h = written_same s (trees.GenericType p k a) h
made_same s (trees.ArrayType p e) h = written_same s (trees.ArrayType p e) h
made_same s _ h = absurd h

abbrev IsExpressions : Sort → Bool
IsExpressions (Expression m) = true
IsExpressions Expressions = true
IsExpressions sort = false

before_same : (s : Scope) (e : Tree) → class_before (elsewhere false s) e ≡ class_before s e
before_same s (trees.Variable p n) = refl
before_same s _ = refl

pub expression_same : (arrays : List JavaType) (olds : Place → Option JavaType) (sort : Sort) (s u : Scope) (e : Tree) → IsCode arrays olds sort u e → IsExpressions sort ≡ true → judged (elsewhere false s) e ≡ judged s e
unfolding judged
expression_same arrays olds (Expression m) s u trees.Nil h i = refl
expression_same arrays olds (Expression m) s u (trees.Number p n) h i = refl
expression_same arrays olds (Expression m) s u (trees.LongNumber p n) h i = refl
expression_same arrays olds (Expression m) s u (trees.Truth p b) h i = refl
expression_same arrays olds (Expression m) s u (trees.Null p) h i = refl
expression_same arrays olds (Expression m) s u (trees.This p) h i = refl
expression_same arrays olds (Expression m) s u (trees.Variable p n) h i = refl
expression_same arrays olds (Expression m) s u (trees.FieldAccess p e n) h i = ap (λ (c : Option ℕ). field_of s p n c (judged (value (elsewhere false s)) e)) (before_same s e) ∙ ap (λ (x : Judged). field_of s p n (class_before s e) x) (expression_same arrays olds (Expression false) (value s) u e h refl)
expression_same arrays olds (Expression m) s u (trees.ArrayAccess p a b) h i = ap (λ (x : Judged). two p element_rule x (judged (value (elsewhere false s)) b)) (expression_same arrays olds (Expression false) (value s) u a h.0 refl) ∙ ap (λ (y : Judged). two p element_rule (judged (value s) a) y) (expression_same arrays olds (Expression false) (value s) u b h.1 refl)
expression_same arrays olds (Expression m) s u (trees.Call p n es) h i = ap (λ (x : Judged). list p (call_rule s (Rattle.kr_types_meaning.specs.Scopes.method_meant s n)) x) (expression_same arrays olds Expressions (value s) u es h refl)
expression_same arrays olds (Expression m) s u (trees.MethodCall p e n es) h i =
    ap (λ (c : Option ℕ). method_of s p n c (judged (value (elsewhere false s)) e) (judged (value (elsewhere false s)) es)) (before_same s e)
    ∙ (ap (λ (x : Judged). method_of s p n (class_before s e) x (judged (value (elsewhere false s)) es)) (expression_same arrays olds (Expression false) (value s) u e h.0 refl) ∙ ap (λ (y : Judged). method_of s p n (class_before s e) (judged (value s) e) y) (expression_same arrays olds Expressions (value s) u es h.1 refl))
expression_same arrays olds (Expression m) s u (trees.SuperCall p n es) h i = ap (λ (x : Judged). list p (super_rule s n) x) (expression_same arrays olds Expressions (value s) u es h refl)
expression_same arrays olds (Expression m) s u (trees.ObjectCreation p t es) h i = ap (λ (x : Judged). one_and_list p (creation_rule s) x (judged (value (elsewhere false s)) es)) (made_same s t h.0) ∙ ap (λ (y : Judged). one_and_list p (creation_rule s) (judged s t) y) (expression_same arrays olds Expressions (value s) u es h.1 refl)
expression_same arrays olds (Expression m) s u (trees.ArrayCreation p t e) h i = ap (λ (x : Judged). two p (array_creation_rule s) x (judged (value (elsewhere false s)) e)) (written_same s t h.0) ∙ ap (λ (y : Judged). two p (array_creation_rule s) (judged s t) y) (expression_same arrays olds (Expression false) (value s) u e h.2 refl)
expression_same arrays olds (Expression m) s u (trees.Unary p unaries.Minus e) h i = ap (λ (x : Judged). one p (unary_rule unaries.Minus) x) (expression_same arrays olds (Expression false) (under_minus s) u e h refl)
expression_same arrays olds (Expression m) s u (trees.Unary p unaries.Plus e) h i = ap (λ (x : Judged). one p (unary_rule unaries.Plus) x) (expression_same arrays olds (Expression false) (value s) u e h refl)
expression_same arrays olds (Expression m) s u (trees.Unary p unaries.Complement e) h i = ap (λ (x : Judged). one p (unary_rule unaries.Complement) x) (expression_same arrays olds (Expression false) (value s) u e h refl)
expression_same arrays olds (Expression m) s u (trees.Unary p unaries.Not e) h i = ap (λ (x : Judged). one p (unary_rule unaries.Not) x) (expression_same arrays olds (Expression false) (value s) u e h refl)
expression_same arrays olds (Expression m) s u (trees.Step p o e) h i = ap (λ (x : Judged). one p (step_rule s x.typed) x) (expression_same arrays olds (Expression false) (value s) u e h refl)
expression_same arrays olds (Expression m) s u (trees.Binary p o a b) h i = ap (λ (x : Judged). two p (operator_rule s o) x (judged (value (elsewhere false s)) b)) (expression_same arrays olds (Expression false) (value s) u a h.0 refl) ∙ ap (λ (y : Judged). two p (operator_rule s o) (judged (value s) a) y) (expression_same arrays olds (Expression false) (value s) u b h.1 refl)
expression_same arrays olds (Expression m) s u (trees.InstanceOf p e t) h i = ap (λ (x : Judged). two p (instance_rule s) x (judged (elsewhere false s) t)) (expression_same arrays olds (Expression false) (value s) u e h.0 refl) ∙ ap (λ (y : Judged). two p (instance_rule s) (judged (value s) e) y) (written_same s t h.1)
expression_same arrays olds (Expression m) s u (trees.Conditional p c a b) h i =
    ap (λ (x : Judged). three p (choice_rule s) x (judged (value (elsewhere false s)) a) (judged (value (elsewhere false s)) b)) (expression_same arrays olds (Expression false) (value s) u c h.0 refl)
    ∙ (ap (λ (y : Judged). three p (choice_rule s) (judged (value s) c) y (judged (value (elsewhere false s)) b)) (expression_same arrays olds (Expression false) (value s) u a h.1 refl) ∙ ap (λ (z : Judged). three p (choice_rule s) (judged (value s) c) (judged (value s) a) z) (expression_same arrays olds (Expression false) (value s) u b h.2 refl))
expression_same arrays olds (Expression m) s u (trees.Cast p t e) h i = ap (λ (x : Judged). two p (cast_rule s) x (judged (value (elsewhere false s)) e)) (written_same s t h.0) ∙ ap (λ (y : Judged). two p (cast_rule s) (judged s t) y) (expression_same arrays olds (Expression false) (value s) u e h.1 refl)
expression_same arrays olds (Expression m) s u (trees.Assignment p a b) h i =
    ap (λ (x : Judged). two p (assignment_rule s x.typed) x (judged (value (elsewhere false s)) b)) (expression_same arrays olds (Expression false) (value s) u a h.0 refl) ∙ ap (λ (y : Judged). two p (assignment_rule s (judged (value s) a).typed) (judged (value s) a) y) (expression_same arrays olds (Expression false) (value s) u b h.1 refl)
expression_same arrays olds (Expression m) s u (trees.CompoundAssignment p o a b) h i =
    ap (λ (x : Judged). two p (compound_rule s o x.typed) x (judged (value (elsewhere false s)) b)) (expression_same arrays olds (Expression false) (value s) u a h.1 refl) ∙ ap (λ (y : Judged). two p (compound_rule s o (judged (value s) a).typed) (judged (value s) a) y) (expression_same arrays olds (Expression false) (value s) u b h.2 refl)
expression_same arrays olds (Expression m) s u (trees.Result p) h i = refl
expression_same arrays olds (Expression m) s u (trees.Old p e) h i = ap (λ (x : Judged). one p (old_rule s) x) (expression_same arrays olds (Expression false) (in_old s) (in_old u) e h.1 refl)
expression_same arrays olds (Expression m) s u _ h i = absurd h
expression_same arrays olds Expressions s u trees.Nil h i = refl
expression_same arrays olds Expressions s u (trees.Cons a b) h i =
    let here = after_expression arrays olds s u false a h.0 in
    let there = after_expression arrays olds (elsewhere false s) u false a h.0 in
    ap (λ (z : Scope). both (judged (elsewhere false s) a) (judged z b)) there
    ∙ (ap (λ (x : Judged). both x (judged (elsewhere false s) b)) (expression_same arrays olds (Expression false) s u a h.0 refl) ∙ (ap (λ (y : Judged). both (judged s a) y) (expression_same arrays olds Expressions s u b h.1 refl) ∙ ap (λ (z : Scope). both (judged s a) (judged z b)) (sym here)))
expression_same arrays olds Expressions s u _ h i = absurd h
expression_same arrays olds _ s u e h i = absurd (cc (i))

-- ---- fields

-- the scope of an initial value
abbrev declaring_field : JavaType → Scope → Scope
declaring_field w s = record s { is_static = false; declaring = Fields; declared = w }

-- from an instance field's member: its type, and its initial value as it is judged there
pub record IsGoodField (s : Scope) (c : ℕ) (f : Field) : Type 0 where
  pub class : f.class ≡ c
  pub type : is_variable_type f.type ≡ true
  pub unbroken : f.is_static ≡ false → (judged (declaring_field f.type s) f.initial).faults ≡ []
  pub fits : f.is_static ≡ false → (t : JavaType) → type_in (judged (declaring_field f.type s) f.initial).typed ≡ Some t → is_assignable s.table t f.type ≡ true

on_given : (f : Option JavaType → Judgement) (x : Typed) (t : JavaType) → type_in x ≡ Some t → on_maybe f x ≡ f (Some t)
on_given f (rules.Value u) t e = ap f e
on_given f (rules.Variable u) t e = ap f e
on_given f (rules.Values ts) t e = absurd (cc (e))
on_given f rules.Untyped t e = absurd (cc (e))

assignable_there : (s : Scope) (w t : JavaType) (p : Place) (n : List ℕ) (e : Tree) → is_known w ≡ true → (judge p (on_maybe (declaration_rule (declaring_field w s) Fields p n) (judged (declaring_field w s) e).typed) (judged (declaring_field w s) e).faults).faults ≡ [] → type_in (judged (declaring_field w s) e).typed ≡ Some t → is_assignable s.table t w ≡ true
assignable_there s w t p n e k f r =
    let D = declaring_field w s in
    let v = on_maybe (declaration_rule D Fields p n) (judged D e).typed in
    let rule = kept p v (judged D e).faults f in
    go (initial_fits D (Some t)) refl rule.0 (sym (on_given (declaration_rule D Fields p n) (judged D e).typed t r) ∙ rule.1)
  where
    known : (b : Bool) → b ≡ true → (not b || is_assignable s.table t w) ≡ true → is_assignable s.table t w ≡ true
    known true k e = e
    known false k e = absurd (cc (k))

    go : (b : Bool) → initial_fits (declaring_field w s) (Some t) ≡ b → (x : Typed) → ask b 35 fine ≡ Fits x → is_assignable s.table t w ≡ true
    go true q x e = known (is_known w) k q
    go false q x e = absurd (cc (e))

-- of a group of declarators
declarators_good : (s : Scope) (c : ℕ) (fi : Bool) (type : Tree) (f : Field) (ds : Tree) → is_variable_type (written s type) ≡ true → AreDeclarators ds → (judged (declaring_field (written s type) s) ds).faults ≡ [] → IsOneOf f (flat_map (declared_in s.table.headings c false fi type) (items ds)) → IsGoodField s c f
unfolding judged
declarators_good s c fi type f trees.Nil v h e i = absurd i
declarators_good s c fi type f (trees.Cons (trees.Declarator p n x) b) v h e (inl i) =
    let D = declaring_field (written s type) s in
    let head = judge p (on_maybe (declaration_rule D Fields p n) (judged D x).typed) (judged D x).faults in
    let parts = append_is_nil head.faults (judged D b).faults e in
    subst (IsGoodField s c) i (record {
      class = refl;
      type = v;
      unbroken = λ q. below_none p (on_maybe (declaration_rule D Fields p n) (judged D x).typed) (judged D x).faults parts.0;
      fits = λ q t r. assignable_there s (written s type) t p n x (variable_known (written s type) v) parts.0 r;
    })
declarators_good s c fi type f (trees.Cons (trees.Declarator p n x) b) v h e (inr i) =
    let D = declaring_field (written s type) s in
    let head = judge p (on_maybe (declaration_rule D Fields p n) (judged D x).typed) (judged D x).faults in
    declarators_good s c fi type f b v h.1 (append_is_nil head.faults (judged D b).faults e).1 i
declarators_good s c fi type f (trees.Cons _ b) v h e i = absurd h.0
declarators_good s c fi type f _ v h e i = absurd h

-- the scope of a constant's value
abbrev pub declaring_constant : Bool → JavaType → Scope → Scope
declaring_constant fi w s = record s { is_static = true; declaring = Constants fi; declared = w }

-- from a constant's member: it has a value, its type is a primitive one, and its expression has a type that fits
pub record IsGoodConstant (s : Scope) (c : ℕ) (f : Field) : Type 0 where
  pub class : f.class ≡ c
  pub type : is_variable_type f.type ≡ true
  pub static : f.is_static ≡ true
  pub final : Bool
  pub unbroken : (judged (declaring_constant final f.type s) f.initial).faults ≡ []
  pub fits : (t : JavaType) → type_in (judged (declaring_constant final f.type s) f.initial).typed ≡ Some t → (is_assignable s.table t f.type ≡ true) × (is_some (value_at s.values f.place) ≡ true)
  pub absent : f.initial ≡ trees.Nil → is_some (value_at s.values f.place) ≡ true

constant_there : (s : Scope) (fi : Bool) (w t : JavaType) (p : Place) (n : List ℕ) (e : Tree) → is_known w ≡ true → (judge p (on_maybe (declaration_rule (declaring_constant fi w s) (Constants fi) p n) (judged (declaring_constant fi w s) e).typed) (judged (declaring_constant fi w s) e).faults).faults ≡ []
    → type_in (judged (declaring_constant fi w s) e).typed ≡ Some t → (is_assignable s.table t w ≡ true) × (is_some (value_at s.values p) ≡ true)
constant_there s fi w t p n e k f r =
    let D = declaring_constant fi w s in
    let v = on_maybe (declaration_rule D (Constants fi) p n) (judged D e).typed in
    let rule = kept p v (judged D e).faults f in
    go (is_known w) k (initial_fits D (Some t)) refl (is_some (value_at s.values p)) refl rule.0 (sym (on_given (declaration_rule D (Constants fi) p n) (judged D e).typed t r) ∙ rule.1)
  where
    known : (b : Bool) → b ≡ true → (not b || is_assignable s.table t w) ≡ true → is_assignable s.table t w ≡ true
    known true k e = e
    known false k e = absurd (cc (k))

    go : (a : Bool) → a ≡ true → (b : Bool) → initial_fits (declaring_constant fi w s) (Some t) ≡ b → (d : Bool) → is_some (value_at s.values p) ≡ d → (x : Typed) → (if a then ask b 35 (ask d 36 (ask (fi && rules.is_simple w) 37 fine)) else fine) ≡ Fits x → (is_assignable s.table t w ≡ true) × (is_some (value_at s.values p) ≡ true)
    go true l true q true z x e = (known (is_known w) k q, z)
    go true l true q false z x e = absurd (cc (e))
    go true l false q d z x e = absurd (cc (e))
    go false l b q d z x e = absurd (cc (l))

none_there : (s : Scope) (fi : Bool) (w : JavaType) (p : Place) (n : List ℕ) → is_known w ≡ true → (judge p (on_maybe (declaration_rule (declaring_constant fi w s) (Constants fi) p n) (rules.Values [])) []).faults ≡ [] → is_some (value_at s.values p) ≡ true
none_there s fi w p n k f = let rule = kept p (declaration_rule (declaring_constant fi w s) (Constants fi) p n None) [] f in go (is_known w) k (is_some (value_at s.values p)) rule.0 rule.1
  where
    go : (a : Bool) → a ≡ true → (d : Bool) (x : Typed) → (if a then ask true 35 (ask d 36 (ask (fi && rules.is_simple w) 37 fine)) else fine) ≡ Fits x → d ≡ true
    go true l true x e = refl
    go true l false x e = absurd (cc (e))
    go false l d x e = absurd (cc (l))

constants_good : (s : Scope) (c : ℕ) (fi : Bool) (type : Tree) (f : Field) (ds : Tree) → is_variable_type (written s type) ≡ true → AreDeclarators ds → (judged (declaring_constant fi (written s type) s) ds).faults ≡ [] → IsOneOf f (flat_map (declared_in s.table.headings c true fi type) (items ds)) → IsGoodConstant s c f
unfolding judged
constants_good s c fi type f trees.Nil v h e i = absurd i
constants_good s c fi type f (trees.Cons (trees.Declarator p n x) b) v h e (inl i) =
    let D = declaring_constant fi (written s type) s in
    let head = judge p (on_maybe (declaration_rule D (Constants fi) p n) (judged D x).typed) (judged D x).faults in
    let parts = append_is_nil head.faults (judged D b).faults e in
    subst (IsGoodConstant s c) i (record {
      class = refl;
      type = v;
      static = refl;
      final = fi;
      unbroken = below_none p (on_maybe (declaration_rule D (Constants fi) p n) (judged D x).typed) (judged D x).faults parts.0;
      fits = λ t r. constant_there s fi (written s type) t p n x (variable_known (written s type) v) parts.0 r;
      absent = λ q. none_there s fi (written s type) p n (variable_known (written s type) v) (ap (λ (z : Tree). (judge p (on_maybe (declaration_rule D (Constants fi) p n) (judged D z).typed) (judged D z).faults).faults) (sym q) ∙ parts.0);
    })
constants_good s c fi type f (trees.Cons (trees.Declarator p n x) b) v h e (inr i) =
    let D = declaring_constant fi (written s type) s in
    let head = judge p (on_maybe (declaration_rule D (Constants fi) p n) (judged D x).typed) (judged D x).faults in
    constants_good s c fi type f b v h.1 (append_is_nil head.faults (judged D b).faults e).1 i
constants_good s c fi type f (trees.Cons _ b) v h e i = absurd h.0
constants_good s c fi type f _ v h e i = absurd h

-- a constant has a type of variables too
constant_field : (s : Scope) (c : ℕ) (f : Field) → IsGoodConstant s c f → IsGoodField s c f
constant_field s c f g = record { class = g.class; type = g.type; unbroken = λ q. absurd (cc (q, g.static)); fits = λ q t r. absurd (cc (q, g.static)) }

-- a constant among the members
pub constant_good : (s : Scope) (c : ℕ) (f : Field) (t : Tree) → f.is_static ≡ true → (judged s t).faults ≡ [] → IsMember false t → IsOneOf f (fields_in s.table.headings c t) → IsGoodConstant s c f
unfolding judged
constant_good s c f (trees.Field p true fi type ds) static e h i =
    let parts = append_is_nil (judged s type).faults (judged (static_if true (declaring (Constants fi) type s)) ds).faults e in
    constants_good s c fi type f ds (type_variable s type h.0 parts.0) h.1 parts.1 i
constant_good s c f (trees.Field p false fi type ds) static e h i = absurd (cc (static, not_static (items ds) i))
  where
    not_static : (ds : List Tree) → IsOneOf f (flat_map (declared_in s.table.headings c false fi type) ds) → f.is_static ≡ false
    not_static [] i = absurd i
    not_static (trees.Declarator p n x ∷ ds) (inl i) = ap (λ (g : Field). g.is_static) (sym i)
    not_static (trees.Declarator p n x ∷ ds) (inr i) = not_static ds i
    not_static (_ ∷ ds) i = not_static ds i
constant_good s c f _ static e h i = absurd i

pub field_good : (s : Scope) (c : ℕ) (f : Field) (t : Tree) → s.is_static ≡ false → (judged s t).faults ≡ [] → IsMember false t → IsOneOf f (fields_in s.table.headings c t) → IsGoodField s c f
unfolding judged
field_good s c f (trees.Field p true fi type ds) static e h i =
    let parts = append_is_nil (judged s type).faults (judged (static_if true (declaring (Constants fi) type s)) ds).faults e in
    constant_field s c f (constants_good s c fi type f ds (type_variable s type h.0 parts.0) h.1 parts.1 i)
field_good s c f (trees.Field p false fi type ds) static e h i =
    let parts = append_is_nil (judged s type).faults (judged (static_if false (declaring Fields type s)) ds).faults e in
    declarators_good s c fi type f ds (type_variable s type h.0 parts.0) h.1 parts.1 i
field_good s c f _ static e h i = absurd i
