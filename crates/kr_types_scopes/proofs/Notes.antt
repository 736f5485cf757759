-- Notes of a whole tree.
use Rattle.std.proofs.Common.{◌≡◌, ℕ, zero, suc, ◌+◌, ◌<◌, List, [], ◌∷◌, length, map, get_or, Some, refl, sym, ap, subst, ◌∙◌, arith}
use Rattle.std.specs.Prelude.{slice_get}
use Rattle.std.proofs.lemmas.Option.{slice_get_within, slice_get-get_or}
use Rattle.kr_base.specs.declared.place.Place.{Place}
use Rattle.kr_ast.specs.declared.node.Node.{Node}
use Rattle.kr_ast.specs.declared.node.Node.TheVariants as nodes
use Rattle.kr_ast.specs.declared.node.Entry.{Entry}
use Rattle.kr_ast.specs.Tree.{Tree}
use Rattle.kr_ast.specs.Arena.{IsArena, IsPart, ArePartsFrom, parts, tree_in, tree_of}
use Rattle.kr_types_meaning.specs.Typing.{judged}
use Rattle.kr_types_scopes.specs.declared.within.Within.{Within}
use Rattle.kr_types_scopes.specs.declared.within.Binding.{Binding}
use Rattle.kr_types_scopes.specs.Settings.{Setting}
use Rattle.kr_types_scopes.specs.Scoped.{scope_at, IsScoped}
use Rattle.kr_types_meaning.specs.Handing.{handed}
use Rattle.kr_types_meaning.specs.Noting.{Note, kept, parts_of, note_at, part_note}
use Rattle.kr_types_scopes.specs.Noting.{AreNoted, AreNotes}
use Rattle.kr_ast.proofs.Trees.{tree_stands}
use Rattle.kr_types_scopes.proofs.Noted.{noted_is}

-- the parts of a node's tree are the trees of its parts
parts_map : (text : List ℕ) (look : ℕ → Tree) (p : Place) (n : Node) → parts_of (tree_of text look p n) ≡ map look (parts n)
parts_map text look p (nodes.Cons a b) = refl
parts_map text look p _ = refl

get_map : (look : ℕ → Tree) (cs : List ℕ) (j : ℕ) (u : Tree) → slice_get (map look cs) j ≡ Some u → (j < length cs) × (u ≡ look (get_or cs j 0))
get_map look [] j u e = absurd (omega (arith, slice_get_within [] j u e))
get_map look (c ∷ cs) zero u e = (omega arith, (let z : Some (look c) ≡ Some u = e in cc))
get_map look (c ∷ cs) (suc j) u e = let h = get_map look cs j u e in (omega (arith, h.0), h.1)

part_from : (es : List Entry) (i k : ℕ) (cs : List ℕ) (j : ℕ) → ArePartsFrom es i k cs → j < length cs → IsPart es i (k + j) (get_or cs j 0)
part_from es i k [] j h l = absurd (omega (arith, l))
part_from es i k (c ∷ cs) zero h l = let e : k + 0 ≡ k = omega arith in rw e h.0
part_from es i k (c ∷ cs) (suc j) h l =
    let e : k + suc j ≡ k + 1 + j = omega arith in
    rw e (part_from es i (k + 1) cs j h.1 (omega (arith, l)))

module _ (g : Setting) (bs : List Binding) (ws : List Within) (ns : List Note) (a : IsArena g.tree.text g.tree.entries) (s : IsScoped g bs ws) (h : AreNotes g bs ws ns) where
  judged_within : (n i : ℕ) → i < n → i < length g.tree.entries → note_at ns i ≡ kept (judged (scope_at g bs ws i) (tree_in g.tree i))
  judged_within zero i l m = absurd (omega (arith, l))
  judged_within (suc n) i l m = node (get_or g.tree.entries i (some g.tree.entries m)) (slice_get-get_or g.tree.entries i (some g.tree.entries m) m) (judged_within n)
    where
      some : (es : List Entry) → i < length es → Entry
      some [] l = absurd (omega (arith, l))
      some (e ∷ es) l = e

      node : (e : Entry) → slice_get g.tree.entries i ≡ Some e
          → ((c : ℕ) → c < n → c < length g.tree.entries → note_at ns c ≡ kept (judged (scope_at g bs ws c) (tree_in g.tree c))) → note_at ns i ≡ kept (judged (scope_at g bs ws i) (tree_in g.tree i))
      node e is deeper = h i e is ∙ sym (noted_is (scope_at g bs ws i) (part_note ns e.node) (tree_in g.tree i) known)
        where
          known : AreNoted (scope_at g bs ws i) (tree_in g.tree i) (part_note ns e.node)
          known j u there =
              let stands = tree_stands g.tree.text g.tree.entries a.forest i e is in
              let at : slice_get (map (tree_in g.tree) (parts e.node)) j ≡ Some u =
              sym (ap (λ x. slice_get (parts_of x) j) stands ∙ ap (λ x. slice_get x j) (parts_map g.tree.text (tree_in g.tree) e.place e.node)) ∙ there in
              let c = get_or (parts e.node) j 0 in
              let got = get_map (tree_in g.tree) (parts e.node) j u at in
              let zero_is : 0 + j ≡ j = omega arith in
              let p : IsPart g.tree.entries i j c = subst (λ (k : ℕ). IsPart g.tree.entries i k c) zero_is (part_from g.tree.entries i 0 (parts e.node) j (a.forest.stands i e is) got.0) in
              deeper c (omega (arith, p.below, l)) (omega (arith, p.below, m))
              ∙ (ap (λ x. kept (judged x (tree_in g.tree c))) (s.hands i j c m p)
              ∙ ap (λ x. kept (judged (handed (scope_at g bs ws i) (tree_in g.tree i) j) x)) (sym got.1))

  pub all_judged : (i : ℕ) → i < length g.tree.entries → note_at ns i ≡ kept (judged (scope_at g bs ws i) (tree_in g.tree i))
  all_judged i l = judged_within (i + 1) i (omega arith) l
