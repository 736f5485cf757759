-- Each expression without broken nodes has a type that expressions have at its position.
use Rattle.std.proofs.Common.{◌≡◌, ℕ, Bool, true, false, List, [], ◌∷◌, ◌++◌, Option, Some, None, refl, sym, ap, ◌∙◌, subst}
use Rattle.std.specs.Prelude.{◌&&◌, bytes_eq, codes, if◌then◌else◌}
use Rattle.std.proofs.lemmas.Bool.{and_parts}
use Rattle.kr_base.specs.declared.place.Place.{Place}
use Rattle.kr_ast.specs.declared.node.Primitive.TheVariants as primitives
use Rattle.kr_ast.specs.declared.node.UnaryOperator.{UnaryOperator}
use Rattle.kr_ast.specs.declared.node.UnaryOperator.TheVariants as unaries
use Rattle.kr_ast.specs.Tree as trees
use Rattle.kr_ast.specs.Tree.{Tree}
use Rattle.kr_classes_table.specs.Numbers.{Bits32, Bits64}
use Rattle.kr_classes_table.specs.Types.{JavaType, BooleanType, NullType, ClassType, SetType, ListType, InferredType, UnknownType, AppliedType, is_known, is_element}
use Rattle.kr_classes_table.specs.Rules.{Fault}
use Rattle.kr_classes_table.specs.Table.{class_or, class_named, applied}
use Rattle.kr_types_meaning.specs.Scopes.{Scope, Local, value, in_old, written, class_before, after}
use Rattle.kr_types_meaning.specs.Rules.{Typed, Value, Variable, Values, Untyped, Judgement, Fits, Breaks, ask, type_rule, diamond_rule, array_rule, unary_rule, operator_rule, choice_rule, cast_rule, instance_rule, access_rule, element_rule, object_call_rule, creation_fits, creation_rule, array_creation_rule, old_rule, is_statement, is_variable}
use Rattle.kr_types_meaning.specs.Typing.{Judged, judge, on_one, on_list, joined, field_of, method_of, operand, judged, type_in}
use Rattle.kr_types_meaning.specs.Laws.{IsType}
use Rattle.kr_laws_types.specs.DerivedExpressions.{IsWritten, IsCreated, Shaped}
use Rattle.kr_laws_types.specs.Typed.{AreKnown, AreTypesKnown}
use Rattle.kr_laws_types.proofs.Typed.{has_type, written_type}
use Rattle.kr_laws_types.specs.Types.{is_variable_type, is_result_type, is_value_type, is_expression_type, AreVariables, HasVariables}
use Rattle.kr_laws_types.specs.Shapes.{Sort, Expression, Expressions, Statement, Statements, Declarators, Declarator, Catches, Catch, IsCode}
use Rattle.kr_laws_types.specs.Expressions.{plain, is_place, IsTyped}
use Rattle.kr_laws_types.proofs.Given.{AreValues, Good, Fine, variable_value, variable_known, result_known, value_expression, variable_fine, access_fine, constant_fine, own_call_fine, class_call_fine, super_fine, object_call_fine, operator_fine, unary_fine, element_fine, assignment_fine, compound_fine, step_fine, choice_fine, cast_fine, instance_fine, number_fine, this_fine, result_fine, old_fine, creation_fine, array_creation_fine}

-- ---- parts

judge_good : (place b : Bool) (p : Place) (v : Judgement) (below : List Fault) → Fine place b v → Good place b (judge p v below).typed
judge_good place b p (Fits x) below h = h
judge_good place b p (Breaks r) below h = tt

-- an operand
one_fine : (place b here : Bool) (f : JavaType → Judgement) (x : Typed) → Good here false x → ((t : JavaType) → is_value_type t ≡ true → Fine place b (f t)) → Fine place b (on_one f x)
one_fine place b here f (Value t) h g = g t h
one_fine place b here f (Variable t) h g = g t (variable_value t h.1)
one_fine place b here f (Values ts) h g = absurd h
one_fine place b here f Untyped h g = tt

abbrev pub AllGood : Typed → Type 0
AllGood (Values ts) = AreValues ts
AllGood x = x ≡ Untyped

list_fine : (place b : Bool) (f : List JavaType → Judgement) (x : Typed) → ((ts : List JavaType) → Fine place b (f ts)) → Fine place b (on_list f x)
list_fine place b f (Values ts) g = g ts
list_fine place b f (Value t) g = tt
list_fine place b f (Variable t) g = tt
list_fine place b f Untyped g = tt

joined_good : (here : Bool) (x y : Typed) → Good here false x → AllGood y → AllGood (joined x y)
joined_good here (Value t) (Values ts) h k = (h, k)
joined_good here (Variable t) (Values ts) h k = (variable_value t h.1, k)
joined_good here (Values us) y h k = absurd h
joined_good here Untyped y h k = refl
joined_good here (Value t) (Value u) h k = refl
joined_good here (Value t) (Variable u) h k = refl
joined_good here (Value t) Untyped h k = refl
joined_good here (Variable t) (Value u) h k = refl
joined_good here (Variable t) (Variable u) h k = refl
joined_good here (Variable t) Untyped h k = refl

-- ---- types that are written

-- the type of a type's node
abbrev IsVariables : Typed → Type 0
IsVariables (Value t) = is_variable_type t ≡ true
IsVariables (Variable t) = ⊥
IsVariables (Values ts) = ⊥
IsVariables Untyped = Unit {0}

type_variables : (p : Place) (t : JavaType) (below : List Fault) → (is_known t ≡ true → is_variable_type t ≡ true) → IsVariables (judge p (type_rule t) below).typed
type_variables p t below h = go (is_known t) refl
  where
    go : (b : Bool) → is_known t ≡ b → IsVariables (judge p (ask b 1 (Fits (Value t))) below).typed
    go true e = h e
    go false e = tt

class_variables : (c : Option ℕ) (o n : List ℕ) → is_known (class_or c (UnknownType o n)) ≡ true → is_variable_type (class_or c (UnknownType o n)) ≡ true
class_variables (Some c) o n e = refl
class_variables None o n e = absurd (cc (e))

collection_variables : (b c : Bool) (n : List ℕ) (t : JavaType) → is_variable_type t ≡ true → is_known (if b then SetType t else if c then ListType t else AppliedType (UnknownType [] n) t) ≡ true
    → is_variable_type (if b then SetType t else if c then ListType t else AppliedType (UnknownType [] n) t) ≡ true
collection_variables true c n t h e = ap (λ (x : Bool). x && is_variable_type t) (and_parts (is_known t) (is_element t) e).1 ∙ h
collection_variables false true n t h e = ap (λ (x : Bool). x && is_variable_type t) (and_parts (is_known t) (is_element t) e).1 ∙ h
collection_variables false false n t h e = absurd (cc (e))

applied_variables : (h t : JavaType) → is_variable_type t ≡ true → is_known (applied h t) ≡ true → is_variable_type (applied h t) ≡ true
applied_variables (UnknownType [] n) t v e = collection_variables (bytes_eq n (codes "HashSet")) (bytes_eq n (codes "LinkedList")) n t v e
applied_variables (UnknownType (o ∷ os) n) t v e = absurd (cc (e))
applied_variables _ t v e = absurd (cc (e))

one_variables : (p : Place) (f : JavaType → Judgement) (x : Typed) (below : List Fault) → IsVariables x → ((t : JavaType) → is_variable_type t ≡ true → IsVariables (judge p (f t) below).typed) → IsVariables (judge p (on_one f x) below).typed
one_variables p f (Value t) below h g = g t h
one_variables p f (Variable t) below h g = absurd h
one_variables p f (Values ts) below h g = absurd h
one_variables p f Untyped below h g = tt

written_variables : (s : Scope) (t : Tree) → IsWritten t → IsVariables (judged s t).typed
unfolding judged
written_variables s (trees.PrimitiveType p primitives.Int) h = refl
written_variables s (trees.PrimitiveType p primitives.Long) h = refl
written_variables s (trees.PrimitiveType p primitives.Boolean) h = refl
written_variables s (trees.PrimitiveType p primitives.Void) h = absurd h
written_variables s (trees.NamedType p n) h = type_variables p (class_or (class_named s.table.headings (trees.NamedType p n)) (UnknownType [] n)) [] (class_variables (class_named s.table.headings (trees.NamedType p n)) [] n)
written_variables s (trees.QualifiedType p o n) h = type_variables p (class_or (class_named s.table.headings (trees.QualifiedType p o n)) (UnknownType o n)) [] (class_variables (class_named s.table.headings (trees.QualifiedType p o n)) o n)
written_variables s (trees.GenericType p k a) h =
    one_variables p (λ t. type_rule (applied (written s k) t)) (judged s a).typed (judged s a).faults (written_variables s a h.1) (λ t v. type_variables p (applied (written s k) t) (judged s a).faults (applied_variables (written s k) t v))
written_variables s (trees.ArrayType p a) h = one_variables p array_rule (judged s a).typed (judged s a).faults (written_variables s a h) (λ t v. v)
written_variables s _ h = absurd h

-- the types that are written are types
pub written_shaped : (t : Tree) → IsWritten t → IsType t
written_shaped (trees.PrimitiveType p k) h = tt
written_shaped (trees.NamedType p n) h = tt
written_shaped (trees.QualifiedType p o n) h = tt
written_shaped (trees.GenericType p k a) h = (h.0, written_shaped a h.1)
written_shaped (trees.ArrayType p e) h = written_shaped e h
written_shaped _ h = absurd h

-- a type's node that isn't broken has a type of variables
pub written_variable : (s : Scope) (t : Tree) → IsWritten t → (judged s t).faults ≡ [] → (u : JavaType) × (type_in (judged s t).typed ≡ Some u) × (is_variable_type u ≡ true)
written_variable s t h f = let r = written_type s t h f in (r.0, r.1, kind (judged s t).typed r.0 r.1 (written_variables s t h))
  where
    kind : (x : Typed) (u : JavaType) → type_in x ≡ Some u → IsVariables x → is_variable_type u ≡ true
    kind (Value v) u e g = subst (λ (z : Option JavaType). Has z) e g
      where
        Has : Option JavaType → Type 0
        Has None = Unit {0}
        Has (Some z) = is_variable_type z ≡ true
    kind (Variable v) u e g = absurd g
    kind (Values ts) u e g = absurd g
    kind Untyped u e g = absurd (cc (e))

-- the types after `new`: those of which objects can be made are types of values
abbrev IsMadeOf : Typed → Type 0
IsMadeOf (Value t) = (s : Scope) (ts : List JavaType) → creation_fits s t ts ≡ true → is_value_type t ≡ true
IsMadeOf (Variable t) = ⊥
IsMadeOf (Values ts) = ⊥
IsMadeOf Untyped = Unit {0}

variables_made : (x : Typed) → IsVariables x → IsMadeOf x
variables_made (Value t) h = λ s ts e. variable_value t h
variables_made (Variable t) h = h
variables_made (Values ts) h = h
variables_made Untyped h = tt

diamond_made : (p : Place) (h : JavaType) → IsMadeOf (judge p (diamond_rule (applied h InferredType)) []).typed
diamond_made p (UnknownType [] n) = go (bytes_eq n (codes "HashSet")) (bytes_eq n (codes "LinkedList"))
  where
    go : (b c : Bool) → IsMadeOf (judge p (diamond_rule (if b then SetType InferredType else if c then ListType InferredType else AppliedType (UnknownType [] n) InferredType)) []).typed
    go true c = λ s ts e. refl
    go false true = λ s ts e. refl
    go false false = tt
diamond_made p (UnknownType (o ∷ os) n) = tt
diamond_made p (ClassType c) = λ s ts e. absurd (cc (e))
diamond_made p _ = tt

made : (s : Scope) (t : Tree) → IsCreated t → IsMadeOf (judged s t).typed
unfolding judged
made s (trees.DiamondType p k) h = diamond_made p (written s k)
made s (trees.PrimitiveType p k) h = variables_made (judged s (trees.PrimitiveType p k)).typed (written_variables s (trees.PrimitiveType p k) h)
made s (trees.NamedType p n) h = variables_made (judged s (trees.NamedType p n)).typed (written_variables s (trees.NamedType p n) h)
made s (trees.QualifiedType p o n) h = variables_made (judged s (trees.QualifiedType p o n)).typed (written_variables s (trees.QualifiedType p o n) h)
made s (trees.GenericType p k a) h = variables_made (judged s (trees.GenericType p k a)).typed (written_variables s (trees.GenericType p k a) h)
made s (trees.ArrayType p a) h = variables_made (judged s (trees.ArrayType p a)).typed (written_variables s (trees.ArrayType p a) h)
made s _ h = absurd h

created_fine : (s : Scope) (b : Bool) (x y : Typed) → IsMadeOf x → b ≡ is_statement s.role → HasVariables s.table → Fine false b (on_one (λ a. on_list (creation_rule s a) y) x)
created_fine s b (Value t) y h e has = subst (λ (z : Bool). Fine false z (on_list (creation_rule s t) y)) (sym e) (list_fine false (is_statement s.role) (creation_rule s t) y (λ ts. creation_fine s has t ts (h s ts)))
created_fine s b (Variable t) y h e has = absurd h
created_fine s b (Values ts) y h e has = absurd h
created_fine s b Untyped y h e has = tt

-- a written type beside an operand
type_fine : (place b : Bool) (f : JavaType → Judgement) (x : Typed) → IsVariables x → ((t : JavaType) → is_variable_type t ≡ true → Fine place b (f t)) → Fine place b (on_one f x)
type_fine place b f (Value t) h g = g t h
type_fine place b f (Variable t) h g = absurd h
type_fine place b f (Values ts) h g = absurd h
type_fine place b f Untyped h g = tt

-- ---- expressions

module _ (arrays : List JavaType) (olds : Place → Option JavaType) where
  -- they leave their scope
  pub after_expression : (s u : Scope) (absent : Bool) (e : Tree) → IsCode arrays olds (Expression absent) u e → after s e ≡ s
  after_expression s u m trees.Nil h = refl
  after_expression s u m (trees.Number p n) h = refl
  after_expression s u m (trees.LongNumber p n) h = refl
  after_expression s u m (trees.Truth p b) h = refl
  after_expression s u m (trees.Null p) h = refl
  after_expression s u m (trees.This p) h = refl
  after_expression s u m (trees.Variable p n) h = refl
  after_expression s u m (trees.FieldAccess p e n) h = refl
  after_expression s u m (trees.ArrayAccess p a i) h = refl
  after_expression s u m (trees.Call p n es) h = refl
  after_expression s u m (trees.MethodCall p e n es) h = refl
  after_expression s u m (trees.SuperCall p n es) h = refl
  after_expression s u m (trees.ObjectCreation p t es) h = refl
  after_expression s u m (trees.ArrayCreation p t e) h = refl
  after_expression s u m (trees.Unary p o e) h = refl
  after_expression s u m (trees.Step p o e) h = refl
  after_expression s u m (trees.Binary p o a b) h = refl
  after_expression s u m (trees.InstanceOf p e t) h = refl
  after_expression s u m (trees.Conditional p c a b) h = refl
  after_expression s u m (trees.Cast p t e) h = refl
  after_expression s u m (trees.Assignment p a b) h = refl
  after_expression s u m (trees.CompoundAssignment p o a b) h = refl
  after_expression s u m (trees.Result p) h = refl
  after_expression s u m (trees.Old p e) h = refl
  after_expression s u m _ h = absurd h

  -- a scope whose names have types of variables
  abbrev pub IsOfVariables : Scope → Type 0
  IsOfVariables s = HasVariables s.table × AreVariables s.locals × (is_result_type s.result ≡ true)

  abbrev Claim : Sort → Scope → Tree → Type 0
  Claim (Expression absent) s e = absent ≡ false → Good (is_place e) (is_statement s.role) (judged s e).typed
  Claim Expressions s e = is_statement s.role ≡ false → AllGood (judged s e).typed
  Claim sort s e = Unit {0}

  accessed : (s : Scope) (k : HasVariables s.table) (p : Place) (n : List ℕ) (c : Option ℕ) (here : Bool) (x : Judged) → Good here false x.typed → Good true (is_statement s.role) (field_of s p n c x).typed
  accessed s k p n (Some c) here x h = judge_good true (is_statement s.role) p _ [] (constant_fine s k c n)
  accessed s k p n None here x h = judge_good true (is_statement s.role) p _ x.faults (one_fine true (is_statement s.role) here (access_rule s n) x.typed h (λ t g. access_fine s k n t))

  called : (s : Scope) (k : HasVariables s.table) (p : Place) (n : List ℕ) (c : Option ℕ) (here : Bool) (x y : Judged) → Good here false x.typed → Good false (is_statement s.role) (method_of s p n c x y).typed
  called s k p n (Some c) here x y h = judge_good false (is_statement s.role) p _ y.faults (list_fine false (is_statement s.role) _ y.typed (λ ts. class_call_fine s k c n ts))
  called s k p n None here x y h =
      judge_good false (is_statement s.role) p _ (x.faults ++ y.faults) (one_fine false (is_statement s.role) here (λ a. on_list (object_call_rule s n a) y.typed) x.typed h (λ t g. list_fine false (is_statement s.role) _ y.typed (λ ts. object_call_fine s k n t ts g)))

  operand_good : (s : Scope) (o : UnaryOperator) (e : Tree) → Good (is_place e) (is_statement (operand o s).role) (judged (operand o s) e).typed → Good (is_place e) false (judged (operand o s) e).typed
  operand_good s unaries.Minus e h = h
  operand_good s unaries.Plus e h = h
  operand_good s unaries.Complement e h = h
  operand_good s unaries.Not e h = h

  operand_variables : (s : Scope) (o : UnaryOperator) → IsOfVariables s → IsOfVariables (operand o s)
  operand_variables s unaries.Minus k = k
  operand_variables s unaries.Plus k = k
  operand_variables s unaries.Complement k = k
  operand_variables s unaries.Not k = k

  operand_code : (s : Scope) (o : UnaryOperator) (e : Tree) → IsCode arrays olds (Expression false) (plain s) e → IsCode arrays olds (Expression false) (plain (operand o s)) e
  operand_code s unaries.Minus e h = h
  operand_code s unaries.Plus e h = h
  operand_code s unaries.Complement e h = h
  operand_code s unaries.Not e h = h

  pub good : (sort : Sort) (s : Scope) (e : Tree) → IsOfVariables s → IsCode arrays olds sort (plain s) e → Claim sort s e
  unfolding judged
  good (Expression m) s trees.Nil k h = λ q. absurd (cc (h, q))
  good (Expression m) s (trees.Number p n) k h = λ q. judge_good false (is_statement s.role) p _ [] (number_fine s k.0 Bits32 n)
  good (Expression m) s (trees.LongNumber p n) k h = λ q. judge_good false (is_statement s.role) p _ [] (number_fine s k.0 Bits64 n)
  good (Expression m) s (trees.Truth p b) k h = λ q. value_expression (is_statement s.role) BooleanType refl
  good (Expression m) s (trees.Null p) k h = λ q. value_expression (is_statement s.role) NullType refl
  good (Expression m) s (trees.This p) k h = λ q. judge_good false (is_statement s.role) p _ [] (this_fine s k.0)
  good (Expression m) s (trees.Variable p n) k h = λ q. judge_good true (is_statement s.role) p _ [] (variable_fine s k.0 n k.1)
  good (Expression m) s (trees.FieldAccess p e n) k h = λ q. accessed s k.0 p n (class_before s e) (is_place e) (judged (value s) e) (good (Expression false) (value s) e k h refl)
  good (Expression m) s (trees.ArrayAccess p a i) k h =
      λ q. judge_good true (is_statement s.role) p _ _ (one_fine true (is_statement s.role) (is_place a) _ (judged (value s) a).typed (good (Expression false) (value s) a k h.0 refl)
      (λ t g. one_fine true (is_statement s.role) (is_place i) (element_rule t) (judged (value s) i).typed (good (Expression false) (value s) i k h.1 refl) (λ u f. element_fine s k.0 t u g)))
  good (Expression m) s (trees.Call p n es) k h = λ q. judge_good false (is_statement s.role) p _ _ (list_fine false (is_statement s.role) _ (judged (value s) es).typed (λ ts. own_call_fine s k.0 n ts))
  good (Expression m) s (trees.MethodCall p e n es) k h = λ q. called s k.0 p n (class_before s e) (is_place e) (judged (value s) e) (judged (value s) es) (good (Expression false) (value s) e k h.0 refl)
  good (Expression m) s (trees.SuperCall p n es) k h = λ q. judge_good false (is_statement s.role) p _ _ (list_fine false (is_statement s.role) _ (judged (value s) es).typed (λ ts. super_fine s k.0 n ts))
  good (Expression m) s (trees.ObjectCreation p t es) k h = λ q. judge_good false (is_statement s.role) p _ _ (created_fine s (is_statement s.role) (judged s t).typed (judged (value s) es).typed (made s t h.0) refl k.0)
  good (Expression m) s (trees.ArrayCreation p t e) k h =
      λ q. judge_good false (is_statement s.role) p _ _ (type_fine false (is_statement s.role) _ (judged s t).typed (written_variables s t h.0)
      (λ u g. one_fine false (is_statement s.role) (is_place e) (array_creation_rule s u) (judged (value s) e).typed (good (Expression false) (value s) e k h.2 refl) (λ r f. array_creation_fine s k.0 u r g)))
  good (Expression m) s (trees.Unary p o e) k h = λ q. judge_good false (is_statement s.role) p _ _ (one_fine false (is_statement s.role) (is_place e) (unary_rule o) (judged (operand o s) e).typed (operand_good s o e (good (Expression false) (operand o s) e (operand_variables s o k) (operand_code s o e h) refl)) (λ t g. unary_fine s k.0 o t))
  good (Expression m) s (trees.Step p o e) k h = λ q. judge_good false (is_statement s.role) p _ _ (one_fine false (is_statement s.role) (is_place e) _ (judged (value s) e).typed (good (Expression false) (value s) e k h refl) (λ t g. step_fine s k.0 (judged (value s) e).typed t g))
  good (Expression m) s (trees.Binary p o a b) k h =
      λ q. judge_good false (is_statement s.role) p _ _ (one_fine false (is_statement s.role) (is_place a) _ (judged (value s) a).typed (good (Expression false) (value s) a k h.0 refl)
      (λ t g. one_fine false (is_statement s.role) (is_place b) (operator_rule s o t) (judged (value s) b).typed (good (Expression false) (value s) b k h.1 refl) (λ u f. operator_fine s k.0 o t u g)))
  good (Expression m) s (trees.InstanceOf p e t) k h =
      λ q. judge_good false (is_statement s.role) p _ _ (one_fine false (is_statement s.role) (is_place e) _ (judged (value s) e).typed (good (Expression false) (value s) e k h.0 refl)
      (λ u g. type_fine false (is_statement s.role) (instance_rule s u) (judged s t).typed (written_variables s t h.1) (λ r f. instance_fine s k.0 u r)))
  good (Expression m) s (trees.Conditional p c a b) k h =
      λ q. judge_good false (is_statement s.role) p _ _ (one_fine false (is_statement s.role) (is_place c) _ (judged (value s) c).typed (good (Expression false) (value s) c k h.0 refl)
      (λ t g. one_fine false (is_statement s.role) (is_place a) _ (judged (value s) a).typed (good (Expression false) (value s) a k h.1 refl)
      (λ u f. one_fine false (is_statement s.role) (is_place b) (choice_rule s t u) (judged (value s) b).typed (good (Expression false) (value s) b k h.2 refl) (λ r d. choice_fine s k.0 t u r f d))))
  good (Expression m) s (trees.Cast p t e) k h =
      λ q. judge_good false (is_statement s.role) p _ _ (type_fine false (is_statement s.role) _ (judged s t).typed (written_variables s t h.0)
      (λ u g. one_fine false (is_statement s.role) (is_place e) (cast_rule s u) (judged (value s) e).typed (good (Expression false) (value s) e k h.1 refl) (λ r f. cast_fine s k.0 u r (variable_value u g))))
  good (Expression m) s (trees.Assignment p a b) k h =
      λ q. judge_good false (is_statement s.role) p _ _ (one_fine false (is_statement s.role) (is_place a) _ (judged (value s) a).typed (good (Expression false) (value s) a k h.0 refl)
      (λ t g. one_fine false (is_statement s.role) (is_place b) _ (judged (value s) b).typed (good (Expression false) (value s) b k h.1 refl) (λ u f. assignment_fine s k.0 (judged (value s) a).typed t u g)))
  good (Expression m) s (trees.CompoundAssignment p o a b) k h =
      λ q. judge_good false (is_statement s.role) p _ _ (one_fine false (is_statement s.role) (is_place a) _ (judged (value s) a).typed (good (Expression false) (value s) a k h.1 refl)
      (λ t g. one_fine false (is_statement s.role) (is_place b) _ (judged (value s) b).typed (good (Expression false) (value s) b k h.2 refl) (λ u f. compound_fine s k.0 o (judged (value s) a).typed t u g)))
  good (Expression m) s (trees.Result p) k h = λ q. judge_good false (is_statement s.role) p _ [] (result_fine s k.0 k.2)
  good (Expression m) s (trees.Old p e) k h = λ q. judge_good false (is_statement s.role) p _ _ (one_fine false (is_statement s.role) (is_place e) (old_rule s) (judged (in_old s) e).typed (good (Expression false) (in_old s) e k h.1 refl) (λ t g. old_fine s k.0 t g))
  good (Expression m) s _ k h = absurd h
  good Expressions s trees.Nil k h = λ q. tt
  good Expressions s (trees.Cons a b) k h = λ q. joined_good (is_place a) (judged s a).typed (judged (after s a) b).typed (subst (λ (x : Bool). Good (is_place a) x (judged s a).typed) q (good (Expression false) s a k h.0 refl)) (subst (λ (z : Scope). AllGood (judged z b).typed) (sym (after_expression s (plain s) false a h.0)) (good Expressions s b k h.1 q))
  good Expressions s _ k h = absurd h
  good (Statement m) s _ k h = tt
  good Statements s _ k h = tt
  good Declarators s _ k h = tt
  good Declarator s _ k h = tt
  good Catches s _ k h = tt
  good Catch s _ k h = tt

  -- ---- and they have types

  abbrev IsShaped : Sort → Tree → Type 0
  IsShaped (Expression absent) e = absent ≡ false → Shaped false e
  IsShaped Expressions e = Shaped true e
  IsShaped sort e = Unit {0}

  pub shaped : (sort : Sort) (s : Scope) (e : Tree) → IsCode arrays olds sort s e → IsShaped sort e
  shaped (Expression m) s trees.Nil h = λ q. absurd (cc (h, q))
  shaped (Expression m) s (trees.Number p n) h = λ q. tt
  shaped (Expression m) s (trees.LongNumber p n) h = λ q. tt
  shaped (Expression m) s (trees.Truth p b) h = λ q. tt
  shaped (Expression m) s (trees.Null p) h = λ q. tt
  shaped (Expression m) s (trees.This p) h = λ q. tt
  shaped (Expression m) s (trees.Variable p n) h = λ q. tt
  shaped (Expression m) s (trees.FieldAccess p e n) h = λ q. shaped (Expression false) s e h refl
  shaped (Expression m) s (trees.ArrayAccess p a i) h = λ q. (shaped (Expression false) s a h.0 refl, shaped (Expression false) s i h.1 refl)
  shaped (Expression m) s (trees.Call p n es) h = λ q. shaped Expressions s es h
  shaped (Expression m) s (trees.MethodCall p e n es) h = λ q. (shaped (Expression false) s e h.0 refl, shaped Expressions s es h.1)
  shaped (Expression m) s (trees.SuperCall p n es) h = λ q. shaped Expressions s es h
  shaped (Expression m) s (trees.ObjectCreation p t es) h = λ q. (h.0, shaped Expressions s es h.1)
  shaped (Expression m) s (trees.ArrayCreation p t e) h = λ q. (h.0, shaped (Expression false) s e h.2 refl)
  shaped (Expression m) s (trees.Unary p o e) h = λ q. shaped (Expression false) s e h refl
  shaped (Expression m) s (trees.Step p o e) h = λ q. shaped (Expression false) s e h refl
  shaped (Expression m) s (trees.Binary p o a b) h = λ q. (shaped (Expression false) s a h.0 refl, shaped (Expression false) s b h.1 refl)
  shaped (Expression m) s (trees.InstanceOf p e t) h = λ q. (shaped (Expression false) s e h.0 refl, h.1)
  shaped (Expression m) s (trees.Conditional p c a b) h = λ q. (shaped (Expression false) s c h.0 refl, shaped (Expression false) s a h.1 refl, shaped (Expression false) s b h.2 refl)
  shaped (Expression m) s (trees.Cast p t e) h = λ q. (h.0, shaped (Expression false) s e h.1 refl)
  shaped (Expression m) s (trees.Assignment p a b) h = λ q. (shaped (Expression false) s a h.0 refl, shaped (Expression false) s b h.1 refl)
  shaped (Expression m) s (trees.CompoundAssignment p o a b) h = λ q. (h.0, shaped (Expression false) s a h.1 refl, shaped (Expression false) s b h.2 refl)
  shaped (Expression m) s (trees.Result p) h = λ q. tt
  shaped (Expression m) s (trees.Old p e) h = λ q. shaped (Expression false) (in_old s) e h.1 refl
  shaped (Expression m) s _ h = absurd h
  shaped Expressions s trees.Nil h = tt
  shaped Expressions s (trees.Cons a b) h = (shaped (Expression false) s a h.0 refl, shaped Expressions s b h.1)
  shaped Expressions s _ h = absurd h
  shaped (Statement m) s _ h = tt
  shaped Statements s _ h = tt
  shaped Declarators s _ h = tt
  shaped Declarator s _ h = tt
  shaped Catches s _ h = tt
  shaped Catch s _ h = tt

  locals_known : (ls : List Local) → AreVariables ls → AreKnown ls
  locals_known [] h = tt
  locals_known (l ∷ ls) h = (variable_known l.type h.0, locals_known ls h.1)

  pub table_known : (s : Scope) → HasVariables s.table → AreTypesKnown s.table
  table_known s h = record { fields = λ c n f e. variable_known f.type (h.fields c n f e); results = λ c n m e. result_known m.result (h.results c n m e) }

  pub is_typed : (s : Scope) (e : Tree) → HasVariables s.table → AreVariables s.locals → is_result_type s.result ≡ true → IsCode arrays olds (Expression false) (plain s) e → (judged s e).faults ≡ [] → IsTyped s e
  is_typed s e table locals result h f =
      let t = has_type s e (table_known s table) (locals_known s.locals locals) (result_known s.result result) (shaped (Expression false) (plain s) e h refl) f in
      let g = good (Expression false) s e (table, locals, result) h refl in
      record { type = t.0; known = t.1; kind = kind (judged s e).typed t.0 t.1 g; variable = variable (judged s e).typed t.0 t.1 g }
    where
      kind : (x : Typed) (t : JavaType) → type_in x ≡ Some t → Good (is_place e) (is_statement s.role) x → is_expression_type (is_statement s.role) t ≡ true
      kind (Value u) t q g = subst (λ (z : Option JavaType). Has z) q g
        where
          Has : Option JavaType → Type 0
          Has None = Unit {0}
          Has (Some z) = is_expression_type (is_statement s.role) z ≡ true
      kind (Variable u) t q g = subst (λ (z : Option JavaType). Has z) q (value_expression (is_statement s.role) u (variable_value u g.1))
        where
          Has : Option JavaType → Type 0
          Has None = Unit {0}
          Has (Some z) = is_expression_type (is_statement s.role) z ≡ true
      kind (Values ts) t q g = absurd g
      kind Untyped t q g = absurd (cc (q))

      variable : (x : Typed) (t : JavaType) → type_in x ≡ Some t → Good (is_place e) (is_statement s.role) x → is_variable x ≡ true → (is_place e ≡ true) × (is_variable_type t ≡ true)
      variable (Variable u) t q g v = (g.0, subst (λ (z : Option JavaType). Has z) q g.1)
        where
          Has : Option JavaType → Type 0
          Has None = Unit {0}
          Has (Some z) = is_variable_type z ≡ true
      variable (Value u) t q g v = absurd (cc (v))
      variable (Values ts) t q g v = absurd g
      variable Untyped t q g v = absurd (cc (v))

pub expressions_law : Rattle.kr_laws_types.specs.Expressions.ExpressionsLaw
expressions_law arrays olds s e = is_typed arrays olds s e
