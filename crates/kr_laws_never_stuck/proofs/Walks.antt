-- The `\old`s in conditions: their operands are unbroken and have types, and none is in another.
use Rattle.std.proofs.Common.{◌≡◌, ℕ, Bool, true, false, not, ◌&&◌, List, [], ◌++◌, Option, Some, None, refl, sym, ◌∙◌, subst}
use Rattle.kr_base.specs.declared.place.Place.{Place}
use Rattle.kr_ast.specs.declared.node.UnaryOperator.{UnaryOperator}
use Rattle.kr_ast.specs.declared.node.UnaryOperator.TheVariants as unaries
use Rattle.kr_ast.specs.Tree as trees
use Rattle.kr_ast.specs.Tree.{Tree}
use Rattle.kr_classes_table.specs.Nodes.{nodes}
use Rattle.kr_classes_table.specs.Types.{JavaType}
use Rattle.kr_classes_table.specs.Rules.{Fault}
use Rattle.kr_classes_table.specs.Table.{Heading, type_named}
use Rattle.kr_types_meaning.specs.Scopes.{Scope, Role, AsValue, in_old, after, class_before}
use Rattle.kr_types_meaning.specs.Rules.{Typed, Value, Variable, Values, Untyped, Fits, ask, old_rule, is_code, is_after_body}
use Rattle.kr_types_meaning.specs.Typing.{judge, on_one, field_of, method_of, operand, judged, type_in}
use Rattle.kr_laws_types.specs.DerivedExpressions.{Shaped}
use Rattle.kr_laws_types.specs.Shapes.{Sort, Expression, Expressions, HasNumber, IsCode}
use Rattle.kr_laws_types.specs.Expressions.{plain}
use Rattle.kr_laws_types.proofs.Expressions.{is_typed}
use Rattle.kr_mean.specs.Code.{Node, code}
use Rattle.kr_laws_runs.proofs.Respects.{AllOf, all_front, all_back, all_both}
use Rattle.kr_laws_safety.specs.Typed.{Olds}
use Rattle.kr_laws_safety.specs.Claims.{is_target}
use Rattle.kr_laws_safety.proofs.Glue.{kept, on_type}
use Rattle.kr_laws_never_stuck.proofs.Codes.{IsNumbered}
use Rattle.kr_laws_never_stuck.proofs.Closed.{is_open, closed_target, Closed, IsNamed, closed}
use Rattle.kr_laws_types.proofs.Typed.{front_none, back_none, below_none}

-- expressions leave their scope
pub shaped_after : (s : Scope) (e : Tree) → Shaped false e → after s e ≡ s
shaped_after s (trees.Number p n) h = refl
shaped_after s (trees.LongNumber p n) h = refl
shaped_after s (trees.Truth p b) h = refl
shaped_after s (trees.Null p) h = refl
shaped_after s (trees.This p) h = refl
shaped_after s (trees.Variable p n) h = refl
shaped_after s (trees.FieldAccess p e n) h = refl
shaped_after s (trees.ArrayAccess p a i) h = refl
shaped_after s (trees.Call p n es) h = refl
shaped_after s (trees.MethodCall p e n es) h = refl
shaped_after s (trees.SuperCall p n es) h = refl
shaped_after s (trees.ObjectCreation p t es) h = refl
shaped_after s (trees.ArrayCreation p t e) h = refl
shaped_after s (trees.Unary p o e) h = refl
shaped_after s (trees.Step p o e) h = refl
shaped_after s (trees.Binary p o a b) h = refl
shaped_after s (trees.InstanceOf p e t) h = refl
shaped_after s (trees.Conditional p c a b) h = refl
shaped_after s (trees.Cast p t e) h = refl
shaped_after s (trees.Assignment p a b) h = refl
shaped_after s (trees.CompoundAssignment p o a b) h = refl
shaped_after s (trees.Result p) h = refl
shaped_after s (trees.Old p e) h = refl
shaped_after s _ h = absurd h

-- a scope in a role
abbrev as_role : Role → Scope → Scope
as_role r u = record u { is_in_loop = false; role = r }

-- the operand of an `\old`, in the scope around it
pub record OldGood (arrays : List JavaType) (s : Scope) (x : Tree) : Type 0 where
  pub unbroken : (judged (in_old s) x).faults ≡ []
  pub code : (olds : Olds) → IsCode arrays olds (Expression false) (plain (in_old s)) x
  pub type : JavaType
  pub known : type_in (judged (in_old s) x).typed ≡ Some type
  pub target : is_target type ≡ true
  pub outside : s.is_in_old ≡ false

abbrev pub GoodOld : List JavaType → Scope → Tree → Type 0
GoodOld arrays s (trees.Old p x) = OldGood arrays s x
GoodOld arrays s t = Unit {0}

abbrev pub GoodNode : List JavaType → Node → Type 0
GoodNode arrays n = GoodOld arrays n.scope n.tree

-- its type is known by its place
abbrev pub KnownOld : Olds → Scope → Tree → Type 0
KnownOld olds s (trees.Old p x) = is_after_body s.part ≡ true → olds p ≡ type_in (judged (in_old s) x).typed
KnownOld olds s t = Unit {0}

abbrev pub KnownNode : Olds → Node → Type 0
KnownNode olds n = KnownOld olds n.scope n.tree

abbrev pub Shape : Sort → Tree → Type 0
Shape (Expression m) e = Shaped false e
Shape Expressions e = Shaped true e
Shape sort e = ⊥

module _ (arrays : List JavaType) (hs : List Heading) where
  abbrev N : Tree → Type 0
  N t = IsNumbered arrays hs t

  abbrev pub Numbered : Tree → Type 0
  Numbered t = AllOf N (nodes t)

  front : (a b : Tree) → AllOf N (nodes a ++ nodes b) → Numbered a
  front a b h = all_front N (nodes a) (nodes b) h

  back : (a b : Tree) → AllOf N (nodes a ++ nodes b) → Numbered b
  back a b h = all_back N (nodes a) (nodes b) h

  abbrev G : Node → Type 0
  G n = GoodNode arrays n

  abbrev Gs : Scope → Tree → Type 0
  Gs u e = AllOf G (code (plain u) e)

  -- ---- code whose `\old`s have types

  module _ (olds : Olds) where
    abbrev K : Node → Type 0
    K n = KnownNode olds n

    abbrev Ks : Scope → Tree → Type 0
    Ks u e = u.is_in_old ≡ false → AllOf K (code (plain u) e)

    pub ensuring_code : (sort : Sort) (u : Scope) (e : Tree) → u.table.headings ≡ hs → Shape sort e → Numbered e → Gs u e → Ks u e → IsCode arrays olds sort (plain u) e
    ensuring_code (Expression m) u (trees.Number p n) q h a g k = tt
    ensuring_code (Expression m) u (trees.LongNumber p n) q h a g k = tt
    ensuring_code (Expression m) u (trees.Truth p b) q h a g k = tt
    ensuring_code (Expression m) u (trees.Null p) q h a g k = tt
    ensuring_code (Expression m) u (trees.This p) q h a g k = tt
    ensuring_code (Expression m) u (trees.Variable p n) q h a g k = tt
    ensuring_code (Expression m) u (trees.FieldAccess p e n) q h a g k = ensuring_code (Expression false) u e q h a.1 g.1 (λ o. (k o).1)
    ensuring_code (Expression m) u (trees.ArrayAccess p x y) q h a g k = (
      ensuring_code (Expression false) u x q h.0 (front x y a.1) (all_front G (code (plain u) x) (code (plain u) y) g.1) (λ o. all_front K (code (plain u) x) (code (plain u) y) (k o).1),
      ensuring_code (Expression false) u y q h.1 (back x y a.1) (all_back G (code (plain u) x) (code (plain u) y) g.1) (λ o. all_back K (code (plain u) x) (code (plain u) y) (k o).1),
    )
    ensuring_code (Expression m) u (trees.Call p n es) q h a g k = ensuring_code Expressions u es q h a.1 g.1 (λ o. (k o).1)
    ensuring_code (Expression m) u (trees.MethodCall p e n es) q h a g k = (
      ensuring_code (Expression false) u e q h.0 (front e es a.1) (all_front G (code (plain u) e) (code (plain u) es) g.1) (λ o. all_front K (code (plain u) e) (code (plain u) es) (k o).1),
      ensuring_code Expressions u es q h.1 (back e es a.1) (all_back G (code (plain u) e) (code (plain u) es) g.1) (λ o. all_back K (code (plain u) e) (code (plain u) es) (k o).1),
    )
    ensuring_code (Expression m) u (trees.SuperCall p n es) q h a g k = ensuring_code Expressions u es q h a.1 g.1 (λ o. (k o).1)
    ensuring_code (Expression m) u (trees.ObjectCreation p t es) q h a g k = (h.0, ensuring_code Expressions u es q h.1 (back t es a.1) g.1 (λ o. (k o).1))
    ensuring_code (Expression m) u (trees.ArrayCreation p t e) q h a g k = (h.0, subst (λ (z : List Heading). HasNumber arrays (type_named z t)) (sym q) a.0, ensuring_code (Expression false) u e q h.1 (back t e a.1) g.1 (λ o. (k o).1))
    ensuring_code (Expression m) u (trees.Unary p o e) q h a g k = ensuring_code (Expression false) u e q h a.1 g.1 (λ o. (k o).1)
    ensuring_code (Expression m) u (trees.Step p o e) q h a g k = ensuring_code (Expression false) u e q h a.1 g.1 (λ o. (k o).1)
    ensuring_code (Expression m) u (trees.Binary p o x y) q h a g k = (
      ensuring_code (Expression false) u x q h.0 (front x y a.1) (all_front G (code (plain u) x) (code (plain u) y) g.1) (λ o. all_front K (code (plain u) x) (code (plain u) y) (k o).1),
      ensuring_code (Expression false) u y q h.1 (back x y a.1) (all_back G (code (plain u) x) (code (plain u) y) g.1) (λ o. all_back K (code (plain u) x) (code (plain u) y) (k o).1),
    )
    ensuring_code (Expression m) u (trees.InstanceOf p e t) q h a g k = (ensuring_code (Expression false) u e q h.0 (front e t a.1) g.1 (λ o. (k o).1), h.1)
    ensuring_code (Expression m) u (trees.Conditional p c x y) q h a g k =
        let f = all_front N (nodes c ++ nodes x) (nodes y) a.1 in
        let gf = all_front G (code (plain u) c ++ code (plain u) x) (code (plain u) y) g.1 in
        let kf : u.is_in_old ≡ false → AllOf K (code (plain u) c ++ code (plain u) x) = λ o. all_front K (code (plain u) c ++ code (plain u) x) (code (plain u) y) (k o).1 in (
          ensuring_code (Expression false) u c q h.0 (front c x f) (all_front G (code (plain u) c) (code (plain u) x) gf) (λ o. all_front K (code (plain u) c) (code (plain u) x) (kf o)),
          ensuring_code (Expression false) u x q h.1 (back c x f) (all_back G (code (plain u) c) (code (plain u) x) gf) (λ o. all_back K (code (plain u) c) (code (plain u) x) (kf o)),
          ensuring_code (Expression false) u y q h.2 (all_back N (nodes c ++ nodes x) (nodes y) a.1) (all_back G (code (plain u) c ++ code (plain u) x) (code (plain u) y) g.1)
              (λ o. all_back K (code (plain u) c ++ code (plain u) x) (code (plain u) y) (k o).1),
        )
    ensuring_code (Expression m) u (trees.Cast p t e) q h a g k = (h.0, ensuring_code (Expression false) u e q h.1 (back t e a.1) g.1 (λ o. (k o).1))
    ensuring_code (Expression m) u (trees.Assignment p x y) q h a g k = (
      ensuring_code (Expression false) u x q h.0 (front x y a.1) (all_front G (code (plain u) x) (code (plain u) y) g.1) (λ o. all_front K (code (plain u) x) (code (plain u) y) (k o).1),
      ensuring_code (Expression false) u y q h.1 (back x y a.1) (all_back G (code (plain u) x) (code (plain u) y) g.1) (λ o. all_back K (code (plain u) x) (code (plain u) y) (k o).1),
    )
    ensuring_code (Expression m) u (trees.CompoundAssignment p o x y) q h a g k = (
      h.0,
      ensuring_code (Expression false) u x q h.1 (front x y a.1) (all_front G (code (plain u) x) (code (plain u) y) g.1) (λ o. all_front K (code (plain u) x) (code (plain u) y) (k o).1),
      ensuring_code (Expression false) u y q h.2 (back x y a.1) (all_back G (code (plain u) x) (code (plain u) y) g.1) (λ o. all_back K (code (plain u) x) (code (plain u) y) (k o).1),
    )
    ensuring_code (Expression m) u (trees.Result p) q h a g k = tt
    ensuring_code (Expression m) u (trees.Old p x) q h a g k = (λ n. (k g.0.outside).0 n, g.0.code olds)
    ensuring_code (Expression m) u _ q h a g k = absurd h
    ensuring_code Expressions u trees.Nil q h a g k = tt
    ensuring_code Expressions u (trees.Cons x y) q h a g k =
        let same = shaped_after (plain u) x h.0 in (
          ensuring_code (Expression false) u x q h.0 (front x y a) (all_front G (code (plain u) x) (code (after (plain u) x) y) g) (λ o. all_front K (code (plain u) x) (code (after (plain u) x) y) (k o)),
          ensuring_code Expressions u y q h.1 (back x y a) (subst (λ (z : Scope). AllOf G (code z y)) same (all_back G (code (plain u) x) (code (after (plain u) x) y) g))
              (λ o. subst (λ (z : Scope). AllOf K (code z y)) same (all_back K (code (plain u) x) (code (after (plain u) x) y) (k o))),
        )
    ensuring_code Expressions u _ q h a g k = absurd h
    ensuring_code _ u e q h a g k = absurd h

  -- ---- operands of `\old`s

  class_code : (s v : Scope) (e : Tree) (c : ℕ) → class_before s e ≡ Some c → AllOf G (code v e)
  class_code s v (trees.Variable p n) c q = (tt, tt)
  class_code s v _ c q = absurd (cc (q))

  both : (xs ys : List Node) → AllOf G xs → AllOf G ys → AllOf G (xs ++ ys)
  both xs ys h k = all_both G xs ys h k

  open_of : (x : Typed) (t : JavaType) → Closed x → type_in x ≡ Some t → is_open t ≡ false
  open_of (Value u) t c e = subst (λ (o : Option JavaType). Of o) e c
    where
      Of : Option JavaType → Type 0
      Of None = Unit {0}
      Of (Some z) = is_open z ≡ false
  open_of (Variable u) t c e = subst (λ (o : Option JavaType). Of o) e c
    where
      Of : Option JavaType → Type 0
      Of None = Unit {0}
      Of (Some z) = is_open z ≡ false
  open_of (Values ts) t c e = absurd (cc (e))
  open_of Untyped t c e = absurd (cc (e))

  not_in : (s : Scope) (t : JavaType) (x : Typed) → old_rule s t ≡ Fits x → s.is_in_old ≡ false
  not_in s t x e = go (is_after_body s.part) s.is_in_old e
    where
      go : (a b : Bool) → ask (a && not b) 38 (Fits (Value t)) ≡ Fits x → b ≡ false
      go a false e = refl
      go true true e = absurd (cc (e))
      go false true e = absurd (cc (e))

  old_good : (u : Scope) (r : Role) (p : Place) (x : Tree) → IsNamed u → is_code u.part ≡ false → (one : IsCode arrays (λ p. None) (Expression false) (plain (in_old u)) x) → ((olds : Olds) → IsCode arrays olds (Expression false) (plain (in_old u)) x)
      → (judge p (on_one (old_rule (as_role r u)) (judged (plain (in_old u)) x).typed) (judged (plain (in_old u)) x).faults).faults ≡ [] → OldGood arrays (plain u) x
  old_good u r p x k c one all f =
      let inner = judged (plain (in_old u)) x in
      let below = below_none p (on_one (old_rule (as_role r u)) inner.typed) inner.faults f in
      let t = is_typed arrays (λ p. None) (plain (in_old u)) x k.0 k.1 k.2 one below in
      let rule = kept p (on_one (old_rule (as_role r u)) inner.typed) inner.faults f in
      record {
        unbroken = below;
        code = all;
        type = t.type;
        known = t.known;
        target = closed_target t.type t.kind (open_of inner.typed t.type (closed arrays (λ p. None) (plain (in_old u)) x c k one) t.known);
        outside = not_in (as_role r u) t.type rule.0 (sym (on_type (old_rule (as_role r u)) inner.typed t.type t.known) ∙ rule.1);
      }

  nothing : true ≡ false → ⊥
  nothing e = cc (e)

  abbrev J : Role → Scope → Tree → List Fault
  J r u e = (judged (as_role r u) e).faults

  operand_role : UnaryOperator → Role
  operand_role unaries.Minus = Rattle.kr_types_meaning.specs.Scopes.UnderMinus
  operand_role o = AsValue

  operand_is : (o : UnaryOperator) (r : Role) (u : Scope) (e : Tree) → (judged (operand o (as_role r u)) e).faults ≡ [] → J (operand_role o) u e ≡ []
  unfolding operand_role
  operand_is unaries.Minus r u e f = f
  operand_is unaries.Plus r u e f = f
  operand_is unaries.Complement r u e f = f
  operand_is unaries.Not r u e f = f

  pub old_nodes : (sort : Sort) (u : Scope) (r : Role) (e : Tree) → IsNamed u → is_code u.part ≡ false → u.table.headings ≡ hs → Shape sort e → Numbered e → J r u e ≡ [] → Gs u e
  unfolding judged
  old_nodes (Expression m) u r (trees.Number p n) v c q h a f = (tt, tt)
  old_nodes (Expression m) u r (trees.LongNumber p n) v c q h a f = (tt, tt)
  old_nodes (Expression m) u r (trees.Truth p b) v c q h a f = (tt, tt)
  old_nodes (Expression m) u r (trees.Null p) v c q h a f = (tt, tt)
  old_nodes (Expression m) u r (trees.This p) v c q h a f = (tt, tt)
  old_nodes (Expression m) u r (trees.Variable p n) v c q h a f = (tt, tt)
  old_nodes (Expression m) u r (trees.FieldAccess p e n) v c q h a f = (tt, go (class_before (as_role r u) e) refl f (old_nodes (Expression false) u AsValue e v c q h a.1))
    where
      go : (o : Option ℕ) → class_before (as_role r u) e ≡ o → (field_of (as_role r u) p n o (judged (as_role AsValue u) e)).faults ≡ [] → (J AsValue u e ≡ [] → Gs u e) → Gs u e
      go (Some k) w f rest = class_code (as_role r u) (plain u) e k w
      go None w f rest = rest (below_none p _ _ f)
  old_nodes (Expression m) u r (trees.ArrayAccess p x y) v c q h a f =
      let parts = below_none p _ _ f in
      (tt, both (code (plain u) x) (code (plain u) y) (old_nodes (Expression false) u AsValue x v c q h.0 (front x y a.1) (front_none (J AsValue u x) (J AsValue u y) parts)) (old_nodes (Expression false) u AsValue y v c q h.1 (back x y a.1) (back_none (J AsValue u x) (J AsValue u y) parts)))
  old_nodes (Expression m) u r (trees.Call p n es) v c q h a f = (tt, old_nodes Expressions u AsValue es v c q h a.1 (below_none p _ _ f))
  old_nodes (Expression m) u r (trees.MethodCall p e n es) v c q h a f =
      (tt, go (class_before (as_role r u) e) refl f (old_nodes (Expression false) u AsValue e v c q h.0 (front e es a.1)) (old_nodes Expressions u AsValue es v c q h.1 (back e es a.1)))
    where
      go : (o : Option ℕ) → class_before (as_role r u) e ≡ o → (method_of (as_role r u) p n o (judged (as_role AsValue u) e) (judged (as_role AsValue u) es)).faults ≡ [] → (J AsValue u e ≡ [] → Gs u e) → (J AsValue u es ≡ [] → Gs u es)
          → AllOf G (code (plain u) e ++ code (plain u) es)
      go (Some k) w f left right = both (code (plain u) e) (code (plain u) es) (class_code (as_role r u) (plain u) e k w) (right (below_none p _ _ f))
      go None w f left right =
          let parts = below_none p _ _ f in
          both (code (plain u) e) (code (plain u) es) (left (front_none (J AsValue u e) (J AsValue u es) parts)) (right (back_none (J AsValue u e) (J AsValue u es) parts))
  old_nodes (Expression m) u r (trees.SuperCall p n es) v c q h a f = (tt, old_nodes Expressions u AsValue es v c q h a.1 (below_none p _ _ f))
  old_nodes (Expression m) u r (trees.ObjectCreation p t es) v c q h a f =
      (tt, old_nodes Expressions u AsValue es v c q h.1 (back t es a.1) (back_none (judged (as_role r u) t).faults (J AsValue u es) (below_none p _ _ f)))
  old_nodes (Expression m) u r (trees.ArrayCreation p t e) v c q h a f =
      (tt, old_nodes (Expression false) u AsValue e v c q h.1 (back t e a.1) (back_none (judged (as_role r u) t).faults (J AsValue u e) (below_none p _ _ f)))
  old_nodes (Expression m) u r (trees.Unary p o e) v c q h a f = (tt, old_nodes (Expression false) u (operand_role o) e v c q h a.1 (operand_is o r u e (below_none p _ _ f)))
  old_nodes (Expression m) u r (trees.Step p o e) v c q h a f = (tt, old_nodes (Expression false) u AsValue e v c q h a.1 (below_none p _ _ f))
  old_nodes (Expression m) u r (trees.Binary p o x y) v c q h a f =
      let parts = below_none p _ _ f in
      (tt, both (code (plain u) x) (code (plain u) y) (old_nodes (Expression false) u AsValue x v c q h.0 (front x y a.1) (front_none (J AsValue u x) (J AsValue u y) parts)) (old_nodes (Expression false) u AsValue y v c q h.1 (back x y a.1) (back_none (J AsValue u x) (J AsValue u y) parts)))
  old_nodes (Expression m) u r (trees.InstanceOf p e t) v c q h a f =
      (tt, old_nodes (Expression false) u AsValue e v c q h.0 (front e t a.1) (front_none (J AsValue u e) (judged (as_role r u) t).faults (below_none p _ _ f)))
  old_nodes (Expression m) u r (trees.Conditional p z x y) v c q h a f =
      let parts = below_none p _ _ f in
      let first = front_none (J AsValue u z ++ J AsValue u x) (J AsValue u y) parts in
      let n = all_front N (nodes z ++ nodes x) (nodes y) a.1 in (
        tt,
        both (code (plain u) z ++ code (plain u) x) (code (plain u) y)
            (both (code (plain u) z) (code (plain u) x) (old_nodes (Expression false) u AsValue z v c q h.0 (front z x n) (front_none (J AsValue u z) (J AsValue u x) first))
            (old_nodes (Expression false) u AsValue x v c q h.1 (back z x n) (back_none (J AsValue u z) (J AsValue u x) first)))
            (old_nodes (Expression false) u AsValue y v c q h.2 (all_back N (nodes z ++ nodes x) (nodes y) a.1) (back_none (J AsValue u z ++ J AsValue u x) (J AsValue u y) parts)),
      )
  old_nodes (Expression m) u r (trees.Cast p t e) v c q h a f =
      (tt, old_nodes (Expression false) u AsValue e v c q h.1 (back t e a.1) (back_none (judged (as_role r u) t).faults (J AsValue u e) (below_none p _ _ f)))
  old_nodes (Expression m) u r (trees.Assignment p x y) v c q h a f =
      let parts = below_none p _ _ f in
      (tt, both (code (plain u) x) (code (plain u) y) (old_nodes (Expression false) u AsValue x v c q h.0 (front x y a.1) (front_none (J AsValue u x) (J AsValue u y) parts)) (old_nodes (Expression false) u AsValue y v c q h.1 (back x y a.1) (back_none (J AsValue u x) (J AsValue u y) parts)))
  old_nodes (Expression m) u r (trees.CompoundAssignment p o x y) v c q h a f =
      let parts = below_none p _ _ f in
      (tt, both (code (plain u) x) (code (plain u) y) (old_nodes (Expression false) u AsValue x v c q h.1 (front x y a.1) (front_none (J AsValue u x) (J AsValue u y) parts)) (old_nodes (Expression false) u AsValue y v c q h.2 (back x y a.1) (back_none (J AsValue u x) (J AsValue u y) parts)))
  old_nodes (Expression m) u r (trees.Result p) v c q h a f = (tt, tt)
  old_nodes (Expression m) u r (trees.Old p x) v c q h a f =
      let inner : Gs (in_old u) x = old_nodes (Expression false) (in_old u) AsValue x v c q h a.1 (below_none p _ _ f) in
      let all : (olds : Olds) → IsCode arrays olds (Expression false) (plain (in_old u)) x = λ olds. ensuring_code olds (Expression false) (in_old u) x q h a.1 inner (λ o. absurd (nothing o)) in
      (old_good u r p x v c (all (λ p. None)) all f, inner)
  old_nodes (Expression m) u r _ v c q h a f = absurd h
  old_nodes Expressions u r trees.Nil v c q h a f = tt
  old_nodes Expressions u r (trees.Cons x y) v c q h a f =
      let same = shaped_after (as_role r u) x h.0 in
      let first = front_none (J r u x) (judged (after (as_role r u) x) y).faults f in
      let second = subst (λ (z : Scope). (judged z y).faults ≡ []) same (back_none (J r u x) (judged (after (as_role r u) x) y).faults f) in
      both (code (plain u) x) (code (after (plain u) x) y) (old_nodes (Expression false) u r x v c q h.0 (front x y a) first)
      (subst (λ (z : Scope). AllOf G (code z y)) (sym (shaped_after (plain u) x h.0)) (old_nodes Expressions u r y v c q h.1 (back x y a) second))
  old_nodes Expressions u r _ v c q h a f = absurd h
  old_nodes _ u r e v c q h a f = absurd h
