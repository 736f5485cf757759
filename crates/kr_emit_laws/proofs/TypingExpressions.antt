-- Expressions without broken nodes are judged alike in the larger table.
use Rattle.std.proofs.Common.{◌≡◌, refl, sym, ap, ◌∙◌, subst, ℕ, Bool, true, false, List, [], ◌++◌, Option, Some, None}
use Rattle.kr_base.specs.declared.place.Place.{Place}
use Rattle.kr_base.proofs.ListLemmas.{append_is_nil}
use Rattle.kr_ast.specs.declared.node.Primitive.TheVariants as primitives
use Rattle.kr_ast.specs.declared.node.UnaryOperator.TheVariants as unaries
use Rattle.kr_ast.specs.Tree as trees
use Rattle.kr_ast.specs.Tree.{Tree}
use Rattle.kr_classes_table.specs.Types.{JavaType, is_known}
use Rattle.kr_classes_table.specs.Rules.{Fault}
use Rattle.kr_classes_table.specs.Table.{Heading, Table, applied, type_named, method_named}
use Rattle.kr_types_meaning.specs.Scopes.{Scope, Meant, LocalName, FieldName, NoName, value, under_minus, in_old, after, meant, class_if_none, class_before}
use Rattle.kr_types_meaning.specs.Rules.{Value, Judgement, Fits, ask, array_rule, type_rule, name_rule, unary_rule, operator_rule, choice_rule, cast_rule, instance_rule, assignment_rule, compound_rule, step_rule, access_rule, element_rule, static_rule, super_rule, object_call_rule, creation_rule, array_creation_rule, old_rule}
use Rattle.kr_types_meaning.specs.Typing.{Judged, judge, on_one, on_list, both, field_of, method_of, judged}
use Rattle.kr_laws_types.specs.DerivedExpressions.{IsWritten, IsCreated, Shaped}
use Rattle.kr_laws_types.specs.Derivation.{IsResultType}
use Rattle.kr_laws_never_stuck.proofs.Walks.{shaped_after}
use Rattle.kr_laws_types.proofs.Typed.{below_none}
use Rattle.kr_emit_laws.specs.Larger.{AreNames, IsLarger}
use Rattle.kr_emit_laws.proofs.TypingNames.{IsFree, known_same, taker_same}
use Rattle.kr_emit_laws.proofs.Rules.{at, Keeps, equal, type_keeps, diamond_keeps, meant_same, name_keeps, operator_keeps, choice_keeps, cast_keeps, instance_keeps, assignment_keeps, compound_keeps, access_keeps, constant_keeps, call_keeps, static_keeps, super_keeps, object_call_keeps, creation_keeps}
use Rattle.kr_emit_laws.proofs.Parts.{judge_keeps, one_of, one_keeps, two_of, two_keeps, three_keeps, one_and_list_keeps, list_keeps}

-- ---- types

type_known : (p : Place) (a : JavaType) (below : List Fault) → (judge p (type_rule a) below).faults ≡ [] → (is_known a ≡ true) × ((judge p (type_rule a) below).typed ≡ Value a)
type_known p a below e = go (is_known a) refl e
  where
    go : (b : Bool) → is_known a ≡ b → (judge p (ask b 1 (Fits (Value a))) below).faults ≡ [] → (is_known a ≡ true) × ((judge p (type_rule a) below).typed ≡ Value a)
    go true q e = (q, ap (λ z. (judge p (ask z 1 (Fits (Value a))) below).typed) q)
    go false q e = absurd (Rattle.kr_base.proofs.ListLemmas.push_is_some below (record { place = p; rule = 1 }) e)

-- a written type without broken nodes is the known type that it names
pub record IsNamed (s : Scope) (k : Tree) : Type 0 where
  pub known : is_known (type_named s.table.headings k) ≡ true
  pub typed : (judged s k).typed ≡ Value (type_named s.table.headings k)

named_by : (s : Scope) (k : Tree) → (is_known (type_named s.table.headings k) ≡ true) × ((judged s k).typed ≡ Value (type_named s.table.headings k)) → IsNamed s k
named_by s k h = record { known = h.0; typed = h.1 }

pub written_known : (s : Scope) (k : Tree) → IsWritten k → (judged s k).faults ≡ [] → IsNamed s k
unfolding judged
written_known s (trees.PrimitiveType p k) h e = named_by s (trees.PrimitiveType p k) (type_known p (type_named s.table.headings (trees.PrimitiveType p k)) [] e)
written_known s (trees.NamedType p n) h e = named_by s (trees.NamedType p n) (type_known p (type_named s.table.headings (trees.NamedType p n)) [] e)
written_known s (trees.QualifiedType p o n) h e = named_by s (trees.QualifiedType p o n) (type_known p (type_named s.table.headings (trees.QualifiedType p o n)) [] e)
written_known s (trees.GenericType p k a) h e =
    let f : JavaType → Judgement = λ z. type_rule (applied (type_named s.table.headings k) z) in
    let inner = written_known s a h.1 (below_none p (on_one f (judged s a).typed) (judged s a).faults e) in
    let here = type_known p (applied (type_named s.table.headings k) (type_named s.table.headings a)) (judged s a).faults (subst (λ z. (judge p (on_one f z) (judged s a).faults).faults ≡ []) inner.typed e) in
    record { known = here.0; typed = ap (λ z. (judge p (on_one f z) (judged s a).faults).typed) inner.typed ∙ here.1 }
written_known s (trees.ArrayType p a) h e =
    let inner = written_known s a h (below_none p (on_one array_rule (judged s a).typed) (judged s a).faults e) in
    record { known = inner.known; typed = ap (λ z. (judge p (on_one array_rule z) (judged s a).faults).typed) inner.typed }
written_known s _ h e = absurd h

-- where one name more means a class
module _ (t : Table) (more : List Heading) (w : List ℕ) (free : IsFree w) (names : AreNames t.headings more w) where
  pub type_kept : (s : Scope) (k : Tree) → IsWritten k → (judged (at t s) k).faults ≡ [] → type_named more k ≡ type_named t.headings k
  type_kept s k h e = known_same t.headings more w free names k (written_known (at t s) k h e).known

  pub result_kept : (s : Scope) (r : Tree) → IsResultType r → (judged (at t s) r).faults ≡ [] → type_named more r ≡ type_named t.headings r
  result_kept s (trees.PrimitiveType p primitives.Int) h f = refl
  result_kept s (trees.PrimitiveType p primitives.Long) h f = refl
  result_kept s (trees.PrimitiveType p primitives.Boolean) h f = refl
  result_kept s (trees.PrimitiveType p primitives.Void) h f = refl
  result_kept s (trees.NamedType p n) h f = type_kept s (trees.NamedType p n) h f
  result_kept s (trees.QualifiedType p o n) h f = type_kept s (trees.QualifiedType p o n) h f
  result_kept s (trees.GenericType p k a) h f = type_kept s (trees.GenericType p k a) h f
  result_kept s (trees.ArrayType p a) h f = type_kept s (trees.ArrayType p a) h f
  result_kept s _ h f = absurd h

module _ (t u : Table) (w : List ℕ) (free : IsFree w) (g : IsLarger t u w) where
  pub written_same : (s : Scope) (k : Tree) → IsWritten k → (judged (at t s) k).faults ≡ [] → type_named u.headings k ≡ type_named t.headings k
  written_same s k h e = type_kept t u.headings w free g.names s k h e

  named_keeps : (k : Tree) → Keeps (type_rule (type_named t.headings k)) (type_rule (type_named u.headings k))
  named_keeps k = type_keeps (type_named t.headings k) (type_named u.headings k) (known_same t.headings u.headings w free g.names k)

  pub written_alike : (s : Scope) (k : Tree) → IsWritten k → (judged (at t s) k).faults ≡ [] → judged (at u s) k ≡ judged (at t s) k
  unfolding judged
  written_alike s (trees.PrimitiveType p k) h e = judge_keeps p _ _ [] (named_keeps (trees.PrimitiveType p k)) e
  written_alike s (trees.NamedType p n) h e = judge_keeps p _ _ [] (named_keeps (trees.NamedType p n)) e
  written_alike s (trees.QualifiedType p o n) h e = judge_keeps p _ _ [] (named_keeps (trees.QualifiedType p o n)) e
  written_alike s (trees.GenericType p k a) h e =
      one_keeps p (λ z. type_rule (applied (type_named t.headings k) z)) (λ z. type_rule (applied (type_named u.headings k) z)) (judged (at t s) a) (judged (at u s) a) (written_alike s a h.1)
      (λ z. type_keeps (applied (type_named t.headings k) z) (applied (type_named u.headings k) z) (λ q. ap (λ y. applied y z) (taker_same t.headings u.headings w free g.names k z q))) e
  written_alike s (trees.ArrayType p a) h e = one_keeps p array_rule array_rule (judged (at t s) a) (judged (at u s) a) (written_alike s a h) (λ z. equal _ _ refl) e
  written_alike s _ h e = absurd h

  created_alike : (s : Scope) (k : Tree) → IsCreated k → (judged (at t s) k).faults ≡ [] → judged (at u s) k ≡ judged (at t s) k
  unfolding judged
  created_alike s (trees.DiamondType p k) h e = judge_keeps p _ _ [] (diamond_keeps t u w free g k) e
  created_alike s (trees.PrimitiveType p k) h e = written_alike s (trees.PrimitiveType p k) h e
  created_alike s (trees.NamedType p n) h e = written_alike s (trees.NamedType p n) h e
  created_alike s (trees.QualifiedType p o n) h e = written_alike s (trees.QualifiedType p o n) h e
  created_alike s (trees.GenericType p k a) h e = written_alike s (trees.GenericType p k a) h e
  created_alike s (trees.ArrayType p a) h e = written_alike s (trees.ArrayType p a) h e
  created_alike s _ h e = absurd h

  -- ---- classes before a dot

  named_kept : (n : List ℕ) (c : ℕ) (s : Scope) (m : Meant) → class_if_none (at t s) n m ≡ Some c → class_if_none (at u s) n m ≡ Some c
  named_kept n c s NoName e = g.names.kept n c e
  named_kept n c s (LocalName k a) e = absurd (cc (e))
  named_kept n c s (FieldName f) e = absurd (cc (e))

  before_kept : (s : Scope) (e : Tree) (c : ℕ) → class_before (at t s) e ≡ Some c → class_before (at u s) e ≡ Some c
  before_kept s (trees.Variable p n) c q = ap (class_if_none (at u s) n) (meant_same t u w free g s n) ∙ named_kept n c s (meant (at t s) n) q
  before_kept s _ c q = absurd (cc (q))

  before_none : (s : Scope) (e : Tree) → class_before (at t s) e ≡ None → (judged (at t (value s)) e).faults ≡ [] → class_before (at u s) e ≡ None
  unfolding judged
  before_none s (trees.Variable p n) q f = ap (class_if_none (at u s) n) (meant_same t u w free g s n) ∙ go (meant (at t s) n) f
    where
      go : (m : Meant) → (judge p (name_rule (at t (value s)) m) []).faults ≡ [] → class_if_none (at u s) n m ≡ None
      go NoName f = absurd (cc (f))
      go (LocalName k a) f = refl
      go (FieldName x) f = refl
  before_none s _ q f = refl

  field_alike : (s : Scope) (p : Place) (e : Tree) (n : List ℕ) (x y : Judged) → ((judged (at t (value s)) e).faults ≡ [] → class_before (at t s) e ≡ None → class_before (at u s) e ≡ None) → x ≡ judged (at t (value s)) e → (x.faults ≡ [] → y ≡ x)
      → (field_of (at t s) p n (class_before (at t s) e) x).faults ≡ [] → field_of (at u s) p n (class_before (at u s) e) y ≡ field_of (at t s) p n (class_before (at t s) e) x
  field_alike s p e n x y none is same f = go (class_before (at t s) e) refl f
    where
      go : (o : Option ℕ) → class_before (at t s) e ≡ o → (field_of (at t s) p n o x).faults ≡ [] → field_of (at u s) p n (class_before (at u s) e) y ≡ field_of (at t s) p n o x
      go (Some c) q f = ap (λ z. field_of (at u s) p n z y) (before_kept s e c q) ∙ judge_keeps p _ _ [] (constant_keeps t u w free g s c n) f
      go None q f =
          let below = below_none p (on_one (access_rule (at t s) n) x.typed) x.faults f in
          ap (λ z. field_of (at u s) p n z y) (none (ap (λ (z : Judged). z.faults) (sym is) ∙ below) q)
          ∙ one_keeps p (access_rule (at t s) n) (access_rule (at u s) n) x y same (access_keeps t u w free g s n) f

  method_alike : (s : Scope) (p : Place) (e : Tree) (n : List ℕ) (x y xs ys : Judged) → ((judged (at t (value s)) e).faults ≡ [] → class_before (at t s) e ≡ None → class_before (at u s) e ≡ None) → x ≡ judged (at t (value s)) e → (x.faults ≡ [] → y ≡ x) → (xs.faults ≡ [] → ys ≡ xs)
      → (method_of (at t s) p n (class_before (at t s) e) x xs).faults ≡ [] → method_of (at u s) p n (class_before (at u s) e) y ys ≡ method_of (at t s) p n (class_before (at t s) e) x xs
  method_alike s p e n x y xs ys none is same others f = go (class_before (at t s) e) refl f
    where
      go : (o : Option ℕ) → class_before (at t s) e ≡ o → (method_of (at t s) p n o x xs).faults ≡ [] → method_of (at u s) p n (class_before (at u s) e) y ys ≡ method_of (at t s) p n o x xs
      go (Some c) q f =
          ap (λ z. method_of (at u s) p n z y ys) (before_kept s e c q)
          ∙ list_keeps p (static_rule (at t s) (method_named t c n)) (static_rule (at u s) (method_named u c n)) xs ys others (static_keeps t u w free g s c n) f
      go None q f =
          let below = append_is_nil x.faults xs.faults (below_none p (on_one (λ a. on_list (object_call_rule (at t s) n a) xs.typed) x.typed) (x.faults ++ xs.faults) f) in
          ap (λ z. method_of (at u s) p n z y ys) (none (ap (λ (z : Judged). z.faults) (sym is) ∙ below.0) q)
          ∙ one_and_list_keeps p (object_call_rule (at t s) n) (object_call_rule (at u s) n) x xs y ys same others (object_call_keeps t u w free g s n) f

  -- ---- expressions

  pub alike : (b : Bool) (s : Scope) (e : Tree) → Shaped b e → (judged (at t s) e).faults ≡ [] → judged (at u s) e ≡ judged (at t s) e
  unfolding judged
  alike true s trees.Nil h f = refl
  alike true s (trees.Cons x y) h f =
      let parts = append_is_nil (judged (at t s) x).faults (judged (after (at t s) x) y).faults f in
      let old = shaped_after (at t s) x h.0 in
      ap (λ (z : Judged). both z (judged (after (at u s) x) y)) (alike false s x h.0 parts.0)
      ∙ ap (both (judged (at t s) x))
      (ap (λ (z : Scope). judged z y) (shaped_after (at u s) x h.0) ∙ (alike true s y h.1 (subst (λ (z : Scope). (judged z y).faults ≡ []) old parts.1) ∙ ap (λ (z : Scope). judged z y) (sym old)))
  alike true s _ h f = absurd h
  alike false s (trees.Number p n) h f = refl
  alike false s (trees.LongNumber p n) h f = refl
  alike false s (trees.Truth p b) h f = refl
  alike false s (trees.Null p) h f = refl
  alike false s (trees.This p) h f = refl
  alike false s (trees.Variable p n) h f = judge_keeps p _ _ [] (name_keeps t u w free g s n) f
  alike false s (trees.FieldAccess p e n) h f = field_alike s p e n (judged (at t (value s)) e) (judged (at u (value s)) e) (λ b q. before_none s e q b) refl (alike false (value s) e h) f
  alike false s (trees.ArrayAccess p x y) h f =
      two_keeps p element_rule element_rule (judged (at t (value s)) x) (judged (at t (value s)) y) (judged (at u (value s)) x) (judged (at u (value s)) y) (alike false (value s) x h.0) (alike false (value s) y h.1) (λ a b. equal _ _ refl) f
  alike false s (trees.Call p n es) h f = list_keeps p _ _ (judged (at t (value s)) es) (judged (at u (value s)) es) (alike true (value s) es h) (call_keeps t u w free g s n) f
  alike false s (trees.MethodCall p e n es) h f =
      method_alike s p e n (judged (at t (value s)) e) (judged (at u (value s)) e) (judged (at t (value s)) es) (judged (at u (value s)) es) (λ b q. before_none s e q b) refl (alike false (value s) e h.0) (alike true (value s) es h.1) f
  alike false s (trees.SuperCall p n es) h f = list_keeps p (super_rule (at t s) n) (super_rule (at u s) n) (judged (at t (value s)) es) (judged (at u (value s)) es) (alike true (value s) es h) (super_keeps t u w free g s n) f
  alike false s (trees.ObjectCreation p k es) h f =
      one_and_list_keeps p (creation_rule (at t s)) (creation_rule (at u s)) (judged (at t s) k) (judged (at t (value s)) es) (judged (at u s) k) (judged (at u (value s)) es) (created_alike s k h.0) (alike true (value s) es h.1) (creation_keeps t u w free g s) f
  alike false s (trees.ArrayCreation p k e) h f =
      two_keeps p (array_creation_rule (at t s)) (array_creation_rule (at u s)) (judged (at t s) k) (judged (at t (value s)) e) (judged (at u s) k) (judged (at u (value s)) e) (written_alike s k h.0) (alike false (value s) e h.1) (λ a b. equal _ _ refl) f
  alike false s (trees.Unary p unaries.Minus e) h f = one_keeps p (unary_rule unaries.Minus) (unary_rule unaries.Minus) (judged (at t (under_minus s)) e) (judged (at u (under_minus s)) e) (alike false (under_minus s) e h) (λ a. equal _ _ refl) f
  alike false s (trees.Unary p o e) h f = one_keeps p (unary_rule o) (unary_rule o) (judged (at t (value s)) e) (judged (at u (value s)) e) (alike false (value s) e h) (λ a. equal _ _ refl) f
  alike false s (trees.Step p o e) h f = one_of p (step_rule (at t s)) (step_rule (at u s)) (judged (at t (value s)) e) (judged (at u (value s)) e) (alike false (value s) e h) (λ v a. equal _ _ refl) f
  alike false s (trees.Binary p o x y) h f =
      two_keeps p (operator_rule (at t s) o) (operator_rule (at u s) o) (judged (at t (value s)) x) (judged (at t (value s)) y) (judged (at u (value s)) x) (judged (at u (value s)) y) (alike false (value s) x h.0) (alike false (value s) y h.1)
      (operator_keeps t u w free g s o) f
  alike false s (trees.InstanceOf p e k) h f =
      two_keeps p (instance_rule (at t s)) (instance_rule (at u s)) (judged (at t (value s)) e) (judged (at t s) k) (judged (at u (value s)) e) (judged (at u s) k) (alike false (value s) e h.0) (written_alike s k h.1) (instance_keeps t u w free g s) f
  alike false s (trees.Conditional p c x y) h f =
      three_keeps p (choice_rule (at t s)) (choice_rule (at u s)) (judged (at t (value s)) c) (judged (at t (value s)) x) (judged (at t (value s)) y) (judged (at u (value s)) c) (judged (at u (value s)) x) (judged (at u (value s)) y)
      (alike false (value s) c h.0) (alike false (value s) x h.1) (alike false (value s) y h.2) (choice_keeps t u w free g s) f
  alike false s (trees.Cast p k e) h f =
      two_keeps p (cast_rule (at t s)) (cast_rule (at u s)) (judged (at t s) k) (judged (at t (value s)) e) (judged (at u s) k) (judged (at u (value s)) e) (written_alike s k h.0) (alike false (value s) e h.1) (cast_keeps t u w free g s) f
  alike false s (trees.Assignment p x y) h f =
      two_of p (assignment_rule (at t s)) (assignment_rule (at u s)) (judged (at t (value s)) x) (judged (at t (value s)) y) (judged (at u (value s)) x) (judged (at u (value s)) y) (alike false (value s) x h.0) (alike false (value s) y h.1)
      (assignment_keeps t u w free g s) f
  alike false s (trees.CompoundAssignment p o x y) h f =
      two_of p (compound_rule (at t s) o) (compound_rule (at u s) o) (judged (at t (value s)) x) (judged (at t (value s)) y) (judged (at u (value s)) x) (judged (at u (value s)) y) (alike false (value s) x h.1) (alike false (value s) y h.2)
      (compound_keeps t u w free g s o) f
  alike false s (trees.Result p) h f = refl
  alike false s (trees.Old p e) h f = one_keeps p (old_rule (at t s)) (old_rule (at u s)) (judged (at t (in_old s)) e) (judged (at u (in_old s)) e) (alike false (in_old s) e h) (λ a. equal _ _ refl) f
  alike false s _ h f = absurd h
