-- Nodes that touch candidates.
use Rattle.std.proofs.Common.{◌≡◌, refl, sym, ap, ◌∙◌, subst, ℕ, Bool, true, false, List, [], ◌∷◌, ◌++◌, rules, arith, ◌⊎◌, inl, inr}
use Rattle.std.proofs.lemmas.List.Elements.{All-contains, All-push, Contains-append_left, Contains-push, Contains-push_cases}
use Rattle.std.specs.Prelude.{Contains, Option, Some, None, if◌then◌else◌}
use Rattle.kr_base.specs.declared.place.Place.{Place}
use Rattle.kr_ast.specs.declared.node.Node.{Node as AstNode}
use Rattle.kr_ast.specs.declared.node.Node.TheVariants as nodes
use Rattle.kr_ast.specs.Arena.{tree_of}
use Rattle.kr_ast.specs.Tree as trees
use Rattle.kr_ast.specs.Tree.{Tree}
use Rattle.kr_value.specs.declared.object.Class.{Class}
use Rattle.kr_classes_table.specs.Rules.{is_earlier}
use Rattle.kr_types_meaning.specs.Scopes.{Scope}
use Rattle.kr_ast.specs.declared.files.NodeId.{NodeId}
use Rattle.kr_mean.specs.Program.{Program}
use Rattle.kr_mean.specs.Code.{Node}
use Rattle.kr_mean.specs.Purity.{IsFirstImpure, IsPredicateCode, IsPure, may_touch, touch_place}
use Rattle.kr_pure.specs.Seen.{IsActing}
use Rattle.kr_code_members.specs.Nodes.{node_tree}
use Rattle.kr_space_problem.specs.declared.problem.Problem.{Problem}
use Rattle.kr_space_problem.specs.Posed.{posed}
use Rattle.kr_pure_effects.specs.Nodes.{TouchesCandidates}
use Rattle.kr_pure.specs.Entries.{node_of}
use Rattle.kr_pure.specs.Reach.{ArePredicateCode}
use Rattle.kr_pure.specs.Touched.{IsFirstTouch, IsLeastTouch, IsTouchAt}
use Rattle.kr_classes.specs.Faults.{sooner_place}
use Rattle.kr_classes_table.proofs.Order.{number, level}

-- ---- places

irreflexive : (p : Place) → is_earlier p p ≡ false
irreflexive p = grind (arith, rules)

asymmetric : (p q : Place) → is_earlier q p ≡ true → is_earlier p q ≡ false
asymmetric p q b = grind (arith, rules)

onwards : (p q r : Place) → is_earlier p q ≡ false → is_earlier q r ≡ false → is_earlier p r ≡ false
onwards p q r = level p.file q.file r.file _ _ _ (level p.line q.line r.line _ _ _ (number p.col q.col r.col))

-- ---- nodes that touch something

-- the place of a node that touches something
pub touch_stands : (program : Program) (s : Scope) (text : List ℕ) (look : ℕ → Tree) (p : Place) (n : AstNode) (class : Class) → may_touch program s (tree_of text look p n) class ≡ true → touch_place (tree_of text look p n) ≡ p ∷ []
touch_stands program s text look p (nodes.Assignment a b) class h = refl
touch_stands program s text look p (nodes.CompoundAssignment o a b) class h = refl
touch_stands program s text look p (nodes.Step o a) class h = refl
touch_stands program s text look p (nodes.ObjectCreation a b) class h = refl
touch_stands program s text look p (nodes.ArrayCreation a b) class h = refl
touch_stands program s text look p _ class h = absurd (cc (h))

-- and acts
touch_acts : (program : Program) (s : Scope) (t : Tree) (class : Class) → may_touch program s t class ≡ true → IsActing t
touch_acts program s (trees.Assignment p a e) class h = tt
touch_acts program s (trees.CompoundAssignment p o a e) class h = tt
touch_acts program s (trees.Step p o e) class h = tt
touch_acts program s (trees.ObjectCreation p t es) class h = tt
touch_acts program s (trees.ArrayCreation p t e) class h = tt
touch_acts program s _ class h = absurd (cc (h))

-- ---- the first

same_place : (p q : Place) (xs : List Place) → xs ≡ p ∷ [] → xs ≡ q ∷ [] → p ≡ q
same_place p q xs e f = cc

module _ (problem : Problem) where
  one_place : (n : NodeId) (p q : Place) → IsTouchAt problem n (Some p) → IsTouchAt problem n (Some q) → is_earlier q p ≡ false
  one_place n p q a b = ap (λ r. is_earlier r p) (same_place q p (touch_place (node_tree problem.program n.file n.node)) b.1 a.1) ∙ irreflexive p

  -- the place of the new node is the first
  newest : (nodes : List NodeId) (n : NodeId) (q : Place) → IsTouchAt problem n (Some q) → ((m : NodeId) (r : Place) → Contains nodes m → IsTouchAt problem m (Some r) → is_earlier r q ≡ false) → IsLeastTouch problem (nodes ++ n ∷ []) q
  newest nodes n q t before = record {
    node = n;
    there = Contains-push nodes n;
    touches = t;
    first = λ m r c u. go m r u (Contains-push_cases nodes n m c);
  }
    where
      go : (m : NodeId) (r : Place) → IsTouchAt problem m (Some r) → Contains nodes m ⊎ (n ≡ m) → is_earlier r q ≡ false
      go m r u (inl c) = before m r c u
      go m r u (inr e) = one_place n q r t (subst (λ (x : NodeId). IsTouchAt problem x (Some r)) (sym e) u)

  -- the place so far stays the first
  stays_first : (nodes : List NodeId) (n : NodeId) (p : Place) → IsLeastTouch problem nodes p → ((r : Place) → IsTouchAt problem n (Some r) → is_earlier r p ≡ false) → IsLeastTouch problem (nodes ++ n ∷ []) p
  stays_first nodes n p h last = record {
    node = h.node;
    there = Contains-append_left nodes (n ∷ []) h.node h.there;
    touches = h.touches;
    first = λ m r c u. go m r u (Contains-push_cases nodes n m c);
  }
    where
      go : (m : NodeId) (r : Place) → IsTouchAt problem m (Some r) → Contains nodes m ⊎ (n ≡ m) → is_earlier r p ≡ false
      go m r u (inl c) = h.first m r c u
      go m r u (inr e) = last r (subst (λ (x : NodeId). IsTouchAt problem x (Some r)) (sym e) u)

  pub first_more : (nodes : List NodeId) (n : NodeId) (first o : Option Place) → IsFirstTouch problem nodes first → IsTouchAt problem n o → IsFirstTouch problem (nodes ++ n ∷ []) (sooner_place first o)
  first_more nodes n None None h t = All-push (λ m. IsTouchAt problem m None) nodes n h t
  first_more nodes n None (Some q) h t = newest nodes n q t (λ m r c u. absurd (All-contains (λ x. IsTouchAt problem x None) nodes m h c u.0))
  first_more nodes n (Some p) None h t = stays_first nodes n p h (λ r u. absurd (t u.0))
  first_more nodes n (Some p) (Some q) h t = go (is_earlier q p) refl
    where
      go : (b : Bool) → is_earlier q p ≡ b → IsFirstTouch problem (nodes ++ n ∷ []) (if b then Some q else Some p)
      go true e = newest nodes n q t (λ m r c u. onwards r p q (h.first m r c u) (asymmetric p q e))
      go false e = stays_first nodes n p h (λ r u. ap (λ x. is_earlier x p) (same_place r q (touch_place (node_tree problem.program n.file n.node)) u.1 t.1) ∙ e)

  -- ---- the whole

  module _ (found : List NodeId) (code : ArePredicateCode problem found) where
    pub untouched : IsFirstTouch problem found None → IsPure (posed problem)
    untouched h node impure =
        let c = code.complete node impure.0 in
        All-contains (λ n. IsTouchAt problem n None) found c.0 h c.1 (subst (λ (m : Node). TouchesCandidates (posed problem) m) c.2 impure.1)

    pub touched_first : (place : Place) → IsLeastTouch problem found place → IsFirstImpure (posed problem) place
    touched_first place h =
        let n = node_of problem.program h.node in
        let touch = h.touches.0 in
        record {
          node = n;
          impure = (All-contains (λ m. IsActing (node_tree problem.program m.file m.node) → IsPredicateCode (posed problem) (node_of problem.program m)) found h.node code.sound h.there (touch_acts (posed problem).program n.scope n.tree touch.0 touch.1), touch);
          at = h.touches.1;
          first = λ other p impure at.
              let c = code.complete other impure.0 in
              h.first c.0 p c.1 (subst (λ (m : Node). TouchesCandidates (posed problem) m) c.2 impure.1, ap (λ (m : Node). touch_place m.tree) (sym c.2) ∙ at);
        }

-- the test of a node
pub tested_none : (problem : Problem) (n : NodeId) (m : Node) → m ≡ node_of problem.program n → (TouchesCandidates (posed problem) m → ⊥) → IsTouchAt problem n None
tested_none problem n m e h = subst (λ (k : Node). TouchesCandidates (posed problem) k → ⊥) e h

pub tested_some : (problem : Problem) (n : NodeId) (m : Node) (text : List ℕ) (look : ℕ → Tree) (p : Place) (a : AstNode) → m ≡ node_of problem.program n → node_tree problem.program n.file n.node ≡ tree_of text look p a → TouchesCandidates (posed problem) m → IsTouchAt problem n (Some p)
tested_some problem n m text look p a e tree h =
    let here = subst (λ (k : Node). TouchesCandidates (posed problem) k) e h in
    let s = (node_of problem.program n).scope in
    (here, ap touch_place tree ∙ touch_stands (posed problem).program s text look p a here.0 (sym (ap (λ t. may_touch (posed problem).program s t here.0) tree) ∙ here.1))
