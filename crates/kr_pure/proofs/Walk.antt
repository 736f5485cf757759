-- The walk over a tree's nodes by their numbers sees the nodes on paths.
use Rattle.std.proofs.Common.{◌≡◌, refl, sym, ap, ◌∙◌, subst, ℕ, zero, suc, ◌+◌, ◌<◌, List, [], ◌∷◌, ◌++◌, length, map, arith}
use Rattle.std.specs.Prelude.{Option, Some, None, option_and_then, slice_get}
use Rattle.std.proofs.lemmas.Option.{slice_get-map, slice_get_within}
use Rattle.kr_base.specs.declared.place.Place.{Place}
use Rattle.kr_ast.specs.declared.node.Node.{Node as AstNode}
use Rattle.kr_ast.specs.declared.node.Node.TheVariants as nodes
use Rattle.kr_ast.specs.declared.node.Entry.{Entry}
use Rattle.kr_ast.specs.Arena.{IsArena, IsPart, ArePartsFrom, parts, tree_in, tree_of}
use Rattle.kr_ast.specs.Tree as trees
use Rattle.kr_ast.specs.Tree.{Tree}
use Rattle.kr_ast.proofs.Trees.{tree_stands}
use Rattle.kr_classes_table.specs.Table.{items}
use Rattle.kr_types_meaning.specs.Scopes.{Scope, after}
use Rattle.kr_types_scopes.specs.declared.within.Within.{Within}
use Rattle.kr_types_scopes.specs.declared.within.Binding.{Binding}
use Rattle.kr_types_scopes.specs.Settings.{Setting}
use Rattle.kr_types_scopes.specs.Scoped.{IsScoped, scope_at}
use Rattle.kr_types_meaning.specs.Handing.{handed}
use Rattle.kr_mean.specs.Code.{Node, code, code_of_all}
use Rattle.kr_laws_types.specs.Derivation.{AreStatements}
use Rattle.kr_pure.specs.Seen.{node_on, steps_of}
use Rattle.kr_pure.specs.Walk.{IsWalked, node_at, walk_parts}

steps_map : (text : List ℕ) (look : ℕ → Tree) (p : Place) (n : AstNode) → steps_of (tree_of text look p n) ≡ map look (walk_parts n)
steps_map text look p nodes.Nil = refl
steps_map text look p _ = refl

parts_too : (n : AstNode) (j c : ℕ) → slice_get (walk_parts n) j ≡ Some c → slice_get (parts n) j ≡ Some c
parts_too (nodes.GenericType a b) j c h = absurd (cc)
parts_too (nodes.DiamondType a) j c h = absurd (cc)
parts_too (nodes.ArrayType a) j c h = absurd (cc)
parts_too _ j c h = h

part_from : (es : List Entry) (i k : ℕ) (cs : List ℕ) (j c : ℕ) → ArePartsFrom es i k cs → slice_get cs j ≡ Some c → IsPart es i (k + j) c
part_from es i k [] j c h e = absurd (cc)
part_from es i k (d ∷ cs) zero c h e =
    let same : d ≡ c = cc in
    let at : k ≡ k + 0 = omega arith in
    subst (λ (m : ℕ). IsPart es i m c) at (subst (λ (m : ℕ). IsPart es i k m) same h.0)
part_from es i k (d ∷ cs) (suc j) c h e =
    let at : k + 1 + j ≡ k + suc j = omega arith in
    subst (λ (m : ℕ). IsPart es i m c) at (part_from es i (k + 1) cs j c h.1 e)

-- one step more on a path
step_on : (s : Scope) (t : Tree) (path : List ℕ) (m : Node) (j : ℕ) (u : Tree) → node_on s t path ≡ Some m → slice_get (steps_of m.tree) j ≡ Some u → node_on s t (path ++ j ∷ []) ≡ Some (record { scope = handed m.scope m.tree j; tree = u })
step_on s t [] m j u e h =
    let same : record { scope = s; tree = t } ≡ m = cc in
    subst (λ (n : Node). slice_get (steps_of n.tree) j ≡ Some u → node_on s t (j ∷ []) ≡ Some (record { scope = handed n.scope n.tree j; tree = u })) same
    (λ at. ap (option_and_then (λ u. node_on (handed s t j) u [])) at) h
step_on s t (k ∷ path) m j u e h = go (slice_get (steps_of t) k) refl e (λ v d. step_on (handed s t k) v path m j u d h)
  where
    go : (o : Option Tree) → slice_get (steps_of t) k ≡ o → option_and_then (λ v. node_on (handed s t k) v path) o ≡ Some m
        → ((v : Tree) → node_on (handed s t k) v path ≡ Some m → node_on (handed s t k) v (path ++ j ∷ []) ≡ Some (record { scope = handed m.scope m.tree j; tree = u }))
        → node_on s t (k ∷ (path ++ j ∷ [])) ≡ Some (record { scope = handed m.scope m.tree j; tree = u })
    go None at e deeper = absurd (cc)
    go (Some v) at e deeper = ap (option_and_then (λ v. node_on (handed s t k) v (path ++ j ∷ []))) at ∙ deeper v e

module _ (g : Setting) (bs : List Binding) (ws : List Within) (a : IsArena g.tree.text g.tree.entries) (s : IsScoped g bs ws) where
  -- a part of a node of the arena is one of its tree, in the scope that is handed to it
  part_at : (i j c : ℕ) (e : Entry) → slice_get g.tree.entries i ≡ Some e → slice_get (walk_parts e.node) j ≡ Some c → slice_get (steps_of (tree_in g.tree i)) j ≡ Some (tree_in g.tree c)
  part_at i j c e is at =
      ap (λ t. slice_get (steps_of t) j) (tree_stands g.tree.text g.tree.entries a.forest i e is)
      ∙ ap (λ ts. slice_get ts j) (steps_map g.tree.text (tree_in g.tree) e.place e.node)
      ∙ slice_get-map (tree_in g.tree) (walk_parts e.node) j ∙ ap (λ (o : Option ℕ). option_and_then (λ (k : ℕ). Some (tree_in g.tree k)) o) at

  scope_on : (i j c : ℕ) (e : Entry) → slice_get g.tree.entries i ≡ Some e → slice_get (walk_parts e.node) j ≡ Some c → scope_at g bs ws c ≡ handed (scope_at g bs ws i) (tree_in g.tree i) j
  scope_on i j c e is at =
      let zero_on : 0 + j ≡ j = omega arith in
      s.hands i j c (slice_get_within g.tree.entries i e is) (subst (λ (k : ℕ). IsPart g.tree.entries i k c) zero_on (part_from g.tree.entries i 0 (parts e.node) j c (a.forest.stands i e is) (parts_too e.node j c at)))

  pub walked : IsWalked g bs ws
  walked = record {
    root = λ r. ([], refl);
    onward = λ r i j c e on is at. (
      on.0 ++ j ∷ [],
      step_on (scope_at g bs ws r) (tree_in g.tree r) on.0 (node_at g bs ws i) j (tree_in g.tree c) on.1 (part_at i j c e is at)
          ∙ ap (λ (x : Scope). Some (record { scope = x; tree = tree_in g.tree c })) (sym (scope_on i j c e is at)),
    );
  }

  -- a set of nodes that has with a node the parts that the walk goes into has the nodes on paths
  pub reached : (P : ℕ → Type 0) → ((i j c : ℕ) (e : Entry) → P i → slice_get g.tree.entries i ≡ Some e → slice_get (walk_parts e.node) j ≡ Some c → P c)
      → (path : List ℕ) (r : ℕ) (m : Node) → P r → r < length g.tree.entries → node_on (scope_at g bs ws r) (tree_in g.tree r) path ≡ Some m → (i : ℕ) × P i × (m ≡ node_at g bs ws i)
  reached P closed [] r m p lt e = (r, p, (let z : node_at g bs ws r ≡ m = cc in sym z))
  reached P closed (j ∷ path) r m p lt e = at (some g.tree.entries r lt) (λ c q l d. reached P closed path c m q l d)
    where
      some : (es : List Entry) (i : ℕ) → i < length es → (e : Entry) × (slice_get es i ≡ Some e)
      some [] i l = absurd (omega (arith, l))
      some (e ∷ es) zero l = (e, refl)
      some (e ∷ es) (suc i) l = some es i (omega (arith, l))

      at : (x : Entry) × (slice_get g.tree.entries r ≡ Some x) → ((c : ℕ) → P c → c < length g.tree.entries → node_on (scope_at g bs ws c) (tree_in g.tree c) path ≡ Some m → (i : ℕ) × P i × (m ≡ node_at g bs ws i)) → (i : ℕ) × P i × (m ≡ node_at g bs ws i)
      at x deeper = part (slice_get (walk_parts x.0.node) j) refl
        where
          part : (o : Option ℕ) → slice_get (walk_parts x.0.node) j ≡ o → (i : ℕ) × P i × (m ≡ node_at g bs ws i)
          part None is =
              let no : slice_get (steps_of (tree_in g.tree r)) j ≡ None =
              ap (λ t. slice_get (steps_of t) j) (tree_stands g.tree.text g.tree.entries a.forest r x.0 x.1)
              ∙ ap (λ ts. slice_get ts j) (steps_map g.tree.text (tree_in g.tree) x.0.place x.0.node)
              ∙ slice_get-map (tree_in g.tree) (walk_parts x.0.node) j ∙ ap (λ (o : Option ℕ). option_and_then (λ (k : ℕ). Some (tree_in g.tree k)) o) is in
              let z : None ≡ Some m = sym (ap (option_and_then (λ u. node_on (handed (scope_at g bs ws r) (tree_in g.tree r) j) u path)) no) ∙ e in
              absurd (cc)
          part (Some c) is =
              let there = part_at r j c x.0 x.1 is in
              let h = scope_on r j c x.0 x.1 is in
              let below : IsPart g.tree.entries r (0 + j) c = part_from g.tree.entries r 0 (parts x.0.node) j c (a.forest.stands r x.0 x.1) (parts_too x.0.node j c is) in
              deeper c (closed r j c x.0 p x.1 is) (let b = below.below in omega (arith, b, lt))
              (ap (λ (y : Scope). node_on y (tree_in g.tree c) path) h ∙ sym (ap (option_and_then (λ u. node_on (handed (scope_at g bs ws r) (tree_in g.tree r) j) u path)) there) ∙ e)

-- statements one after another are those of their list
pub all_code : (s : Scope) (t : Tree) → AreStatements t → code_of_all s (items t) ≡ code s t
all_code s trees.Nil h = refl
all_code s (trees.Cons a b) h = ap (λ (ns : List Node). code s a ++ ns) (all_code (after s a) b h.1)
all_code s _ h = absurd h
