-- The type of each `\old` is found by its place, where no two are at one.
use Rattle.std.proofs.Common.{◌≡◌, ℕ, ◌+◌, ◌≤◌, Bool, true, false, ◌&&◌, List, [], ◌∷◌, ◌++◌, Some, inl, inr, refl, ap, ◌∙◌, arith}
use Rattle.std.specs.Prelude.{nat_eq, if◌then◌else◌}
use Rattle.std.proofs.lemmas.Bool.{eq-eqb}
use Rattle.kr_base.specs.declared.place.Place.{Place}
use Rattle.kr_ast.specs.Tree as trees
use Rattle.kr_ast.specs.Tree.{Tree}
use Rattle.kr_classes_table.specs.Nodes.{nodes}
use Rattle.kr_classes_table.specs.Constants.{is_at_place}
use Rattle.kr_types_meaning.specs.Scopes.{Scope, in_old, after}
use Rattle.kr_laws_types.specs.Shapes.{Sort, Expression, Expressions}
use Rattle.kr_mean.specs.Purity.{IsOneOf}
use Rattle.kr_mean.specs.Code.{Node, code}
use Rattle.kr_mean.specs.Verdicts.{OldNode, old_in, olds_among}
use Rattle.kr_laws_safety.specs.Triples.{type_of_old}
use Rattle.kr_laws_safety.specs.Tested.{old_type, old_types}
use Rattle.kr_laws_never_stuck.specs.Apart.{one_at, nodes_at}
use Rattle.kr_lex.specs.Cursors.{one_if}
use Rattle.kr_laws_never_stuck.proofs.Parts.{nodes_append}
use Rattle.kr_laws_never_stuck.proofs.Walks.{Shape}

abbrev pub olds_at : Place → List OldNode → ℕ
olds_at p [] = 0
olds_at p (o ∷ os) = one_at p o.place + olds_at p os

pub olds_append : (p : Place) (xs ys : List OldNode) → olds_at p (xs ++ ys) ≡ olds_at p xs + olds_at p ys
olds_append p [] ys = omega arith
olds_append p (x ∷ xs) ys = omega (arith, olds_append p xs ys)

-- ---- by place

same_self : (p : Place) → is_at_place p p ≡ true
same_self p = ap (λ (b : Bool). b && nat_eq p.line p.line && nat_eq p.col p.col) (eq-eqb p.file p.file refl) ∙ (ap (λ (b : Bool). true && b && nat_eq p.col p.col) (eq-eqb p.line p.line refl) ∙ ap (λ (b : Bool). true && true && b) (eq-eqb p.col p.col refl))

some_at : (p : Place) (os : List OldNode) (o : OldNode) → IsOneOf o os → one_at p o.place ≡ 1 → 1 ≤ olds_at p os
some_at p [] o i e = absurd i
some_at p (x ∷ os) o (inl i) e = let same = ap (λ (z : OldNode). one_at p z.place) i in omega (arith, same, e)
some_at p (x ∷ os) o (inr i) e = omega (arith, some_at p os o i e)

pub type_found : (os : List OldNode) (o : OldNode) → olds_at o.place os ≤ 1 → IsOneOf o os → type_of_old (old_types os) o.place ≡ Some (old_type o)
type_found [] o few i = absurd i
type_found (x ∷ os) o few (inl i) =
    ap (λ (b : Bool). if b then Some (old_type x) else type_of_old (old_types os) o.place) (ap (λ (z : OldNode). is_at_place z.place o.place) i ∙ same_self o.place) ∙ ap (λ (z : OldNode). Some (old_type z)) i
type_found (x ∷ os) o few (inr i) = go (is_at_place x.place o.place) refl (type_found os o (omega (arith, few)) i)
  where
    go : (b : Bool) → is_at_place x.place o.place ≡ b → type_of_old (old_types os) o.place ≡ Some (old_type o) → (if b then Some (old_type x) else type_of_old (old_types os) o.place) ≡ Some (old_type o)
    go false e r = r
    go true e r = absurd (omega (arith, few, ap one_if e, some_at o.place os o i (ap one_if (same_self o.place))))

-- ---- those of an expression

module _ (p : Place) where
  abbrev C : List Node → ℕ
  C [] = 0
  C (n ∷ ns) = olds_at p (old_in false n.scope n.tree) + C ns

  count_append : (xs ys : List Node) → C (xs ++ ys) ≡ C xs + C ys
  count_append [] ys = omega arith
  count_append (x ∷ xs) ys = omega (arith, count_append xs ys)

  -- whether the thrown object has a name there or not
  count_one : (b : Bool) (s : Scope) (t : Tree) → olds_at p (old_in b s t) ≡ olds_at p (old_in false s t)
  count_one b s (trees.Old q e) = refl
  count_one b s _ = refl

  pub count_is : (b : Bool) (ns : List Node) → olds_at p (olds_among b ns) ≡ C ns
  count_is b [] = refl
  count_is b (n ∷ ns) = omega (arith, olds_append p (old_in b n.scope n.tree) (olds_among b ns), count_one b n.scope n.tree, count_is b ns)

  two : (s t : Scope) (a b : Tree) → C (code s a ++ code t b) ≡ C (code s a) + C (code t b)
  two s t a b = count_append (code s a) (code t b)

  pair : (a b : Tree) → nodes_at p (nodes a ++ nodes b) ≡ nodes_at p (nodes a) + nodes_at p (nodes b)
  pair a b = nodes_append p (nodes a) (nodes b)

  pub fewer : (sort : Sort) (s : Scope) (e : Tree) → Shape sort e → C (code s e) ≤ nodes_at p (nodes e)
  fewer (Expression m) s (trees.Number q n) h = omega arith
  fewer (Expression m) s (trees.LongNumber q n) h = omega arith
  fewer (Expression m) s (trees.Truth q b) h = omega arith
  fewer (Expression m) s (trees.Null q) h = omega arith
  fewer (Expression m) s (trees.This q) h = omega arith
  fewer (Expression m) s (trees.Variable q n) h = omega arith
  fewer (Expression m) s (trees.FieldAccess q e n) h = omega (arith, fewer (Expression false) s e h)
  fewer (Expression m) s (trees.ArrayAccess q a b) h = omega (arith, two s s a b, pair a b, fewer (Expression false) s a h.0, fewer (Expression false) s b h.1)
  fewer (Expression m) s (trees.Call q n es) h = omega (arith, fewer Expressions s es h)
  fewer (Expression m) s (trees.MethodCall q e n es) h = omega (arith, two s s e es, pair e es, fewer (Expression false) s e h.0, fewer Expressions s es h.1)
  fewer (Expression m) s (trees.SuperCall q n es) h = omega (arith, fewer Expressions s es h)
  fewer (Expression m) s (trees.ObjectCreation q t es) h = omega (arith, pair t es, fewer Expressions s es h.1)
  fewer (Expression m) s (trees.ArrayCreation q t e) h = omega (arith, pair t e, fewer (Expression false) s e h.1)
  fewer (Expression m) s (trees.Unary q o e) h = omega (arith, fewer (Expression false) s e h)
  fewer (Expression m) s (trees.Step q o e) h = omega (arith, fewer (Expression false) s e h)
  fewer (Expression m) s (trees.Binary q o a b) h = omega (arith, two s s a b, pair a b, fewer (Expression false) s a h.0, fewer (Expression false) s b h.1)
  fewer (Expression m) s (trees.InstanceOf q e t) h = omega (arith, pair e t, fewer (Expression false) s e h.0)
  fewer (Expression m) s (trees.Conditional q c a b) h =
      omega (arith, count_append (code s c ++ code s a) (code s b), two s s c a, nodes_append p (nodes c ++ nodes a) (nodes b), pair c a, fewer (Expression false) s c h.0, fewer (Expression false) s a h.1, fewer (Expression false) s b h.2)
  fewer (Expression m) s (trees.Cast q t e) h = omega (arith, pair t e, fewer (Expression false) s e h.1)
  fewer (Expression m) s (trees.Assignment q a b) h = omega (arith, two s s a b, pair a b, fewer (Expression false) s a h.0, fewer (Expression false) s b h.1)
  fewer (Expression m) s (trees.CompoundAssignment q o a b) h = omega (arith, two s s a b, pair a b, fewer (Expression false) s a h.1, fewer (Expression false) s b h.2)
  fewer (Expression m) s (trees.Result q) h = omega arith
  fewer (Expression m) s (trees.Old q x) h = omega (arith, fewer (Expression false) (in_old s) x h)
  fewer (Expression m) s _ h = absurd h
  fewer Expressions s trees.Nil h = omega arith
  fewer Expressions s (trees.Cons a b) h = omega (arith, two s (after s a) a b, pair a b, fewer (Expression false) s a h.0, fewer Expressions (after s a) b h.1)
  fewer Expressions s _ h = absurd h
  fewer _ s e h = absurd h
