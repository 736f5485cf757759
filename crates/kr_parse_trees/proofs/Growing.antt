-- Values look the same after adding a node or a name, and after a permutation.
use Rattle.std.proofs.Common.{◌≡◌, ℕ, inl, inr, zero, suc, ◌+◌, ◌-◌, ◌<◌, ◌≤◌, List, [], ◌∷◌, ◌++◌, length, take, drop, get_or, Option, Some, None, refl, sym, ap, ◌∙◌, arith, subst, append_assoc, length-append, length-drop}
use Rattle.std.proofs.lemmas.List.{take-append-drop, take-append-le, drop-append-le}
use Rattle.std.proofs.lemmas.Grind.{common_steps}
use Rattle.kr_base.specs.declared.place.Place.{Place}
use Rattle.kr_ast.specs.declared.node.Name.{Name}
use Rattle.kr_ast.specs.declared.node.Node.{Node}
use Rattle.kr_ast.specs.declared.node.Node.TheVariants as nodes
use Rattle.kr_ast.specs.declared.node.Entry.{Entry}
use Rattle.kr_ast.specs.Tree.{Tree, Nil, size}
use Rattle.kr_ast.specs.Grow.{grow}
use Rattle.kr_ast.specs.Arena.{Arena, name_in, tree_of, trees, tree_at, entry_tree, parts, names, AreNamesIn, root}
use Rattle.kr_ast.specs.Forest.{AreFree, AreRoots, IsIn, IsOneRoot}
use Rattle.kr_parse_grammar.specs.declared.value.Form.{Form}
use Rattle.kr_parse_grammar.specs.Values.{StackItem, mark, word, pair, part, member, owner}
use Rattle.kr_parse_reduction.specs.declared.value.Kept.{Kept}
use Rattle.kr_parse_reduction.specs.declared.value.Kept.TheVariants.{Mark, Word, Pair, Part, Member, Owner}
use Rattle.kr_parse_reduction.specs.declared.plan.Plan.{Plan}
use Rattle.kr_parse_reduction.specs.declared.moves.Move.{Move}
use Rattle.kr_parse_reduction.specs.Perm.{Perm, done}
use Rattle.kr_parse_reduction.specs.Plans.{tree}
use Rattle.kr_parse_reduction.specs.Shown.{item, shown, nodes_of, names_of, sizes, AreBuilt, listed, Fits, stacked, planned, moving, FitsMove, moved}
use Rattle.kr_parse_reduction.proofs.Roots.{perm_append, perm_into, in_perm, roots_perm, free_front, free_back, weigh, weigh_perm, weigh_append}

-- parts of lists
pub nodes_append : (vs ws : List Kept) → nodes_of (vs ++ ws) ≡ nodes_of vs ++ nodes_of ws
nodes_append [] ws = refl
nodes_append (Part p f i ∷ vs) ws = ap (λ (is : List ℕ). i ∷ is) (nodes_append vs ws)
nodes_append (Mark k p ∷ vs) ws = nodes_append vs ws
nodes_append (Word p n ∷ vs) ws = nodes_append vs ws
nodes_append (Pair p o n ∷ vs) ws = nodes_append vs ws
nodes_append (Member b m ∷ vs) ws = nodes_append vs ws
nodes_append (Owner b p n ∷ vs) ws = nodes_append vs ws

pub names_append : (vs ws : List Kept) → names_of (vs ++ ws) ≡ names_of vs ++ names_of ws
names_append [] ws = refl
names_append (Part p f i ∷ vs) ws = names_append vs ws
names_append (Mark k p ∷ vs) ws = names_append vs ws
names_append (Word p n ∷ vs) ws = ap (λ (ns : List Name). n ∷ ns) (names_append vs ws)
names_append (Pair p o n ∷ vs) ws = ap (λ (ns : List Name). o ∷ n ∷ ns) (names_append vs ws)
names_append (Member b m ∷ vs) ws = names_append vs ws
names_append (Owner b p n ∷ vs) ws = ap (λ (ns : List Name). n ∷ ns) (names_append vs ws)

pub shown_append : (a : Arena) (vs ws : List Kept) → shown a (vs ++ ws) ≡ shown a vs ++ shown a ws
shown_append a [] ws = refl
shown_append a (v ∷ vs) ws = ap (λ (is : List StackItem). item a v ∷ is) (shown_append a vs ws)

pub shown_drop : (a : Arena) (n : ℕ) (vs : List Kept) → shown a (drop n vs) ≡ drop n (shown a vs)
shown_drop a zero vs = refl
shown_drop a (suc n) [] = refl
shown_drop a (suc n) (v ∷ vs) = shown_drop a n vs

pub in_join : (text : List ℕ) (ns ms : List Name) → AreNamesIn text ns → AreNamesIn text ms → AreNamesIn text (ns ++ ms)
in_join text [] ms h g = g
in_join text (n ∷ ns) ms h g = (h.0, h.1, in_join text ns ms h.2 g)

pub in_back : (text : List ℕ) (ns ms : List Name) → AreNamesIn text (ns ++ ms) → AreNamesIn text ms
in_back text [] ms h = h
in_back text (n ∷ ns) ms h = in_back text ns ms h.2

pub in_front : (text : List ℕ) (ns ms : List Name) → AreNamesIn text (ns ++ ms) → AreNamesIn text ns
in_front text [] ms h = tt
in_front text (n ∷ ns) ms h = (h.0, h.1, in_front text ns ms h.2)

-- sizes, over the nodes
pub sizes_of_nodes : (a : Arena) (vs : List Kept) → sizes (shown a vs) ≡ weigh (λ i. size (tree_at a.text a.entries i)) (nodes_of vs)
sizes_of_nodes a [] = refl
sizes_of_nodes a (Part p f i ∷ vs) = ap (λ n. size (tree_at a.text a.entries i) + n) (sizes_of_nodes a vs)
sizes_of_nodes a (Mark k p ∷ vs) = sizes_of_nodes a vs
sizes_of_nodes a (Word p n ∷ vs) = sizes_of_nodes a vs
sizes_of_nodes a (Pair p o n ∷ vs) = sizes_of_nodes a vs
sizes_of_nodes a (Member b m ∷ vs) = sizes_of_nodes a vs
sizes_of_nodes a (Owner b p n ∷ vs) = sizes_of_nodes a vs

size_of_tree : (text : List ℕ) (look : ℕ → Tree) (p : Place) (n : Node) → size (tree_of text look p n) ≡ 1 + weigh (λ i. size (look i)) (parts n)
size_of_tree text look p nodes.Nil = omega arith
size_of_tree text look p _ = omega arith

-- the trees of an arena, one for each node
length_grow : (f : List Tree → Entry → Tree) (ts : List Tree) (es : List Entry) → length (grow f ts es) ≡ length ts + length es
unfolding grow
length_grow f ts [] = omega arith
length_grow f ts (e ∷ es) = omega (arith, length_grow f (ts ++ f ts e ∷ []) es, length-append ts (f ts e ∷ []))

pub length_trees : (text : List ℕ) (es : List Entry) → length (trees text es) ≡ length es
unfolding trees
length_trees text es = length_grow (entry_tree text) [] es ∙ (omega arith)

-- The trees and names of one arena are also in another.
pub record Extends (a b : Arena) : Type 0 where
  pub text : (n : Name) → n.start ≤ n.end → n.end ≤ length a.text → name_in b.text n ≡ name_in a.text n
  pub tree : (i : ℕ) → i < length a.entries → tree_at b.text b.entries i ≡ tree_at a.text a.entries i

pub shown_same : (a b : Arena) (vs : List Kept) → Extends a b → AreFree a.entries (nodes_of vs) → AreNamesIn a.text (names_of vs) → shown b vs ≡ shown a vs
shown_same a b [] x f n = refl
shown_same a b (Mark k p ∷ vs) x f n = ap (λ (is : List StackItem). mark k p ∷ is) (shown_same a b vs x f n)
shown_same a b (Word p m ∷ vs) x f n = let e = x.text m n.0 n.1 in let g = shown_same a b vs x f n.2 in cc
shown_same a b (Pair p o m ∷ vs) x f n =
    let d = x.text o n.0 n.1 in
    let e = x.text m n.2.0 n.2.1 in
    let g = shown_same a b vs x f n.2.2 in cc
shown_same a b (Part p c i ∷ vs) x f n = let e = x.tree i f.0 in let g = shown_same a b vs x f.3 n in cc
shown_same a b (Member c m ∷ vs) x f n = ap (λ (is : List StackItem). member c m ∷ is) (shown_same a b vs x f n)
shown_same a b (Owner c p m ∷ vs) x f n = let e = x.text m n.0 n.1 in let g = shown_same a b vs x f n.2 in cc

at_below : (ts : List Tree) (t : Tree) (i : ℕ) → i < length ts → get_or (ts ++ t ∷ []) i Nil ≡ get_or ts i Nil
at_below ts t i h = grind (arith, common_steps)

at_end : (ts : List Tree) (t : Tree) (i : ℕ) → i ≡ length ts → get_or (ts ++ t ∷ []) i Nil ≡ t
at_end ts t i h = grind (arith, common_steps)

-- a node more
pub extends_node : (a b : Arena) (t : Tree) → b.text ≡ a.text → trees b.text b.entries ≡ trees a.text a.entries ++ t ∷ [] → Extends a b
extends_node a b t e g = record {
  text = λ n h k. ap (λ (text : List ℕ). name_in text n) e;
  tree = λ i h.
      let l : i < length (trees a.text a.entries) = rw length_trees h in
      ap (λ (ts : List Tree). get_or ts i Nil) g ∙ at_below (trees a.text a.entries) t i l;
}

last_tree : (a b : Arena) (t : Tree) (i : ℕ) → i ≡ length a.entries → trees b.text b.entries ≡ trees a.text a.entries ++ t ∷ [] → tree_at b.text b.entries i ≡ t
last_tree a b t i e g =
    let l : i ≡ length (trees a.text a.entries) = e ∙ sym (length_trees a.text a.entries) in
    ap (λ (ts : List Tree). get_or ts i Nil) g ∙ at_end (trees a.text a.entries) t i l

pub sizes_append : (xs ys : List StackItem) → sizes (xs ++ ys) ≡ sizes xs + sizes ys
sizes_append [] ys = omega arith
sizes_append (part p f t ∷ xs) ys = omega (arith, sizes_append xs ys)
sizes_append (mark k p ∷ xs) ys = sizes_append xs ys
sizes_append (word p n ∷ xs) ys = sizes_append xs ys
sizes_append (pair p o n ∷ xs) ys = sizes_append xs ys
sizes_append (member b m ∷ xs) ys = sizes_append xs ys
sizes_append (owner b p n ∷ xs) ys = sizes_append xs ys

split_nodes : (n : ℕ) (vs : List Kept) → nodes_of vs ≡ nodes_of (take n vs) ++ nodes_of (drop n vs)
split_nodes n vs = ap nodes_of (sym (take-append-drop n vs)) ∙ nodes_append (take n vs) (drop n vs)

left_named : (text : List ℕ) (n : ℕ) (vs : List Kept) → AreNamesIn text (names_of vs) → AreNamesIn text (names_of (drop n vs))
left_named text n vs h =
    let e : names_of vs ≡ names_of (take n vs) ++ names_of (drop n vs) = ap names_of (sym (take-append-drop n vs)) ∙ names_append (take n vs) (drop n vs) in
    in_back text (names_of (take n vs)) (names_of (drop n vs)) (subst (AreNamesIn text) e h)

-- the parts of the node, the nodes of what stays above it, and the others
pub roots_apart : (a : Arena) (vs : List Kept) (s : Plan) (o : Option Kept) → AreBuilt a vs → Fits a.text vs s o
    → AreRoots a.entries (parts s.node ++ (nodes_of (listed o) ++ nodes_of (drop s.taken vs)))
roots_apart a vs s o h f =
    let r = subst (AreRoots a.entries) (split_nodes s.taken vs) h.roots in
    let q = roots_perm a.entries (perm_append (nodes_of (drop s.taken vs)) f.same) r in
    subst (AreRoots a.entries) (append_assoc (parts s.node) (nodes_of (listed o)) (nodes_of (drop s.taken vs))) q

put_shown : (a b : Arena) (vs : List Kept) (s : Plan) (o : Option Kept) (i : ℕ) → AreBuilt a vs → Fits a.text vs s o → i ≡ length a.entries → b.text ≡ a.text
    → trees b.text b.entries ≡ trees a.text a.entries ++ tree_of a.text (tree_at a.text a.entries) s.place s.node ∷ []
    → shown b (stacked s o i vs) ≡ planned a vs s o
put_shown a b vs s o i h f at text more =
    let t : Tree = tree_of a.text (tree_at a.text a.entries) s.place s.node in
    let x = extends_node a b t text more in
    let r = roots_apart a vs s o h f in
    let free = free_back a.entries (parts s.node) (nodes_of (listed o) ++ nodes_of (drop s.taken vs)) r.free in
    let e = shown_same a b (listed o) x (free_front a.entries (nodes_of (listed o)) (nodes_of (drop s.taken vs)) free) (in_back a.text (names s.node) (names_of (listed o)) f.named) in
    let g = shown_same a b (drop s.taken vs) x (free_back a.entries (nodes_of (listed o)) (nodes_of (drop s.taken vs)) free) (left_named a.text s.taken vs h.named) ∙ shown_drop a s.taken vs in
    let l = last_tree a b t i at more in
    shown_append b (listed o) (Part s.place s.form i ∷ drop s.taken vs)
    ∙ ap (λ (xs : List StackItem). xs ++ part s.place s.form (tree_at b.text b.entries i) ∷ shown b (drop s.taken vs)) e
    ∙ ap (λ (xs : List StackItem). shown a (listed o) ++ part s.place s.form (tree_at b.text b.entries i) ∷ xs) g
    ∙ ap (λ (u : Tree). shown a (listed o) ++ part s.place s.form u ∷ drop s.taken (shown a vs)) l

put_count : (a : Arena) (vs : List Kept) (s : Plan) (o : Option Kept) → AreBuilt a vs → Fits a.text vs s o → length a.entries + 1 ≡ sizes (planned a vs s o)
put_count a vs s o h f =
    let w : ℕ → ℕ = λ i. size (tree_at a.text a.entries i) in
    let t : Tree = tree_of a.text (tree_at a.text a.entries) s.place s.node in
    let e1 : length a.entries ≡ weigh w (nodes_of (take s.taken vs)) + weigh w (nodes_of (drop s.taken vs)) = h.count ∙ sizes_of_nodes a vs ∙ ap (weigh w) (split_nodes s.taken vs) ∙ weigh_append w (nodes_of (take s.taken vs)) (nodes_of (drop s.taken vs)) in
    let e2 : weigh w (nodes_of (take s.taken vs)) ≡ weigh w (parts s.node) + weigh w (nodes_of (listed o)) = weigh_perm w f.same ∙ weigh_append w (parts s.node) (nodes_of (listed o)) in
    let e3 : size t ≡ 1 + weigh w (parts s.node) = size_of_tree a.text (tree_at a.text a.entries) s.place s.node in
    let e4 : sizes (shown a (listed o)) ≡ weigh w (nodes_of (listed o)) = sizes_of_nodes a (listed o) in
    let e5 : sizes (drop s.taken (shown a vs)) ≡ weigh w (nodes_of (drop s.taken vs)) = ap sizes (sym (shown_drop a s.taken vs)) ∙ sizes_of_nodes a (drop s.taken vs) in
    let e6 : sizes (planned a vs s o) ≡ sizes (shown a (listed o)) + (size t + sizes (drop s.taken (shown a vs))) = sizes_append (shown a (listed o)) (part s.place s.form t ∷ drop s.taken (shown a vs)) in
    sum _ _ _ _ _ _ _ _ _ e1 e2 e3 e4 e5 e6
  where
    sum : (n t w p ab sz sa sd pl : ℕ) → n ≡ t + w → t ≡ p + ab → sz ≡ 1 + p → sa ≡ ab → sd ≡ w → pl ≡ sa + (sz + sd) → n + 1 ≡ pl
    sum n t w p ab sz sa sd pl e1 e2 e3 e4 e5 e6 = omega arith

-- a node takes the place of values
pub put_built : (a b : Arena) (vs us : List Kept) (s : Plan) (o : Option Kept) (i : ℕ) → AreBuilt a vs → Fits a.text vs s o
    → i ≡ length a.entries → length b.entries ≡ length a.entries + 1 → b.text ≡ a.text
    → trees b.text b.entries ≡ trees a.text a.entries ++ tree_of a.text (tree_at a.text a.entries) s.place s.node ∷ []
    → ((rest : List ℕ) → AreRoots a.entries (parts s.node ++ rest) → AreRoots b.entries (i ∷ rest))
    → us ≡ stacked s o i vs → AreBuilt b us × (shown b us ≡ planned a vs s o)
put_built a b vs us s o i h f at long text more roots e =
    let g : shown b us ≡ planned a vs s o = ap (shown b) e ∙ put_shown a b vs s o i h f at text more in
    let r = roots (nodes_of (listed o) ++ nodes_of (drop s.taken vs)) (roots_apart a vs s o h f) in
    let q = roots_perm b.entries (perm_into i (nodes_of (listed o)) (nodes_of (drop s.taken vs))) r in
    let n = in_join a.text (names_of (listed o)) (names_of (drop s.taken vs)) (in_back a.text (names s.node) (names_of (listed o)) f.named) (left_named a.text s.taken vs h.named) in (
      record {
        roots = subst (AreRoots b.entries) (sym (ap nodes_of e ∙ nodes_append (listed o) (Part s.place s.form i ∷ drop s.taken vs))) q;
        named = subst (λ (ns : List Name). AreNamesIn b.text ns) (sym (ap names_of e ∙ names_append (listed o) (Part s.place s.form i ∷ drop s.taken vs)))
            (subst (λ (x : List ℕ). AreNamesIn x (names_of (listed o) ++ names_of (drop s.taken vs))) (sym text) n);
        count = long ∙ put_count a vs s o h f ∙ ap sizes (sym g);
        last = λ j l.
            let k : j ≡ i = omega arith in
            subst (IsIn j) (sym (ap nodes_of e ∙ nodes_append (listed o) (Part s.place s.form i ∷ drop s.taken vs)))
            (in_perm (perm_into i (nodes_of (listed o)) (nodes_of (drop s.taken vs))) j (inl k));
      },
      g,
    )

-- the requirements of a node on its parts and names
pub put_free : (a : Arena) (vs : List Kept) (s : Plan) (o : Option Kept) → AreBuilt a vs → Fits a.text vs s o → AreFree a.entries (parts s.node)
put_free a vs s o h f = free_front a.entries (parts s.node) (nodes_of (listed o) ++ nodes_of (drop s.taken vs)) (roots_apart a vs s o h f).free

pub put_named : (text : List ℕ) (vs : List Kept) (s : Plan) (o : Option Kept) → Fits text vs s o → AreNamesIn text (names s.node)
put_named text vs s o f = in_front text (names s.node) (names_of (listed o)) f.named

-- values take the place of others
pub move_built : (a : Arena) (vs us : List Kept) (m : Move) → AreBuilt a vs → FitsMove a.text vs m → us ≡ moved m vs → AreBuilt a us
move_built a vs us m h f e =
    let w : ℕ → ℕ = λ i. size (tree_at a.text a.entries i) in
    let n : nodes_of us ≡ nodes_of (moving m) ++ nodes_of (drop m.taken vs) = ap nodes_of e ∙ nodes_append (moving m) (drop m.taken vs) in
    let r = subst (AreRoots a.entries) (split_nodes m.taken vs) h.roots in
    let p = perm_append (nodes_of (drop m.taken vs)) f.same in
    let q = roots_perm a.entries p r in
    let c = weigh_perm w p in
    record {
      roots = subst (AreRoots a.entries) (sym n) q;
      named = subst (AreNamesIn a.text) (sym (ap names_of e ∙ names_append (moving m) (drop m.taken vs))) (in_join a.text (names_of (moving m)) (names_of (drop m.taken vs)) f.named (left_named a.text m.taken vs h.named));
      count = h.count ∙ sizes_of_nodes a vs ∙ ap (weigh w) (split_nodes m.taken vs) ∙ c ∙ ap (weigh w) (sym n) ∙ sym (sizes_of_nodes a us);
      last = λ j l. subst (IsIn j) (sym n) (in_perm p j (subst (IsIn j) (split_nodes m.taken vs) (h.last j l)));
    }

-- a name more
name_kept : (text more : List ℕ) (n : Name) → n.start ≤ n.end → n.end ≤ length text → name_in (text ++ more) n ≡ name_in text n
name_kept text more n h k =
    let s : n.start ≤ length text = omega arith in
    let l : n.end - n.start ≤ length (drop n.start text) = rw length-drop (omega arith) in
    ap (take (n.end - n.start)) (drop-append-le n.start text more s) ∙ take-append-le (n.end - n.start) (drop n.start text) more l

names_kept : (text more : List ℕ) (ns : List Name) → AreNamesIn text ns → AreNamesIn (text ++ more) ns
names_kept text more [] h = tt
names_kept text more (n ∷ ns) h = (h.0, omega (arith, h.1, length-append text more), names_kept text more ns h.2)

pub word_built : (a b : Arena) (vs : List Kept) (p : Place) (n : Name) (bytes : List ℕ) → AreBuilt a vs → b.text ≡ a.text ++ bytes → b.entries ≡ a.entries
    → trees b.text b.entries ≡ trees a.text a.entries → AreNamesIn b.text (n ∷ []) → name_in b.text n ≡ bytes
    → AreBuilt b (Word p n ∷ vs) × (shown b (Word p n ∷ vs) ≡ word p bytes ∷ shown a vs)
word_built a b vs p n bytes h text es ts within is =
    let x : Extends a b = record {
      text = λ m l k. ap (λ (t : List ℕ). name_in t m) text ∙ name_kept a.text bytes m l k;
      tree = λ i l. ap (λ (us : List Tree). get_or us i Nil) ts;
    } in
    let e : shown b vs ≡ shown a vs = shown_same a b vs x h.roots.free h.named in
    let k : AreNamesIn b.text (names_of vs) = subst (λ (t : List ℕ). AreNamesIn t (names_of vs)) (sym text) (names_kept a.text bytes (names_of vs) h.named) in (
      record {
        roots = subst (λ (xs : List Entry). AreRoots xs (nodes_of vs)) (sym es) h.roots;
        named = (within.0, within.1, k);
        count = ap length es ∙ h.count ∙ ap sizes (sym e);
        last = λ j l. h.last j (l ∙ ap length es);
      },
      (cc),
    )

only_in : {j k : ℕ} → IsIn j (k ∷ []) → j ≡ k
only_in (inl e) = e
only_in (inr h) = absurd h

-- the only tree is that of the last node
one_last : (a : Arena) (q : Place) (g : Form) (r : ℕ) → AreBuilt a (Part q g r ∷ []) → r + 1 ≡ length a.entries
one_last a q g r h =
    let z : r < length a.entries = h.roots.free.0 in
    let e : length a.entries - 1 ≡ r = only_in (h.last (length a.entries - 1) (omega arith)) in
    omega arith

no_part : (x : StackItem) (xs : List StackItem) → [] ≡ x ∷ xs → ⊥
no_part x xs e = cc

no_more : (x y z : StackItem) (xs : List StackItem) → x ∷ y ∷ xs ≡ z ∷ [] → ⊥
no_more x y z xs e = cc

pub one_root : (a : Arena) (vs : List Kept) (p : Place) (f : Form) (t : Tree) → AreBuilt a vs → shown a vs ≡ part p f t ∷ [] → IsOneRoot a.entries × (root a ≡ t) × (length a.entries ≡ size t)
one_root a [] p f t h e = absurd (no_part _ _ e)
one_root a (Part q g r ∷ []) p f t h e =
    let l = one_last a q g r h in
    let k : length a.entries - 1 ≡ r = omega arith in
    let u : tree_at a.text a.entries r ≡ t = cc in
    ((r, h.roots, l), ap (tree_at a.text a.entries) k ∙ u, h.count ∙ ap sizes e ∙ (omega arith))
one_root a (Mark k q ∷ vs) p f t h e = cc
one_root a (Word q n ∷ vs) p f t h e = cc
one_root a (Pair q o n ∷ vs) p f t h e = cc
one_root a (Member b m ∷ vs) p f t h e = cc
one_root a (Owner b q n ∷ vs) p f t h e = cc
one_root a (Part q g r ∷ v ∷ vs) p f t h e = absurd (no_more _ _ _ _ e)

-- the stack after the pushes
pub stacked_none : (s : Plan) (i : ℕ) (vs us ws : List Kept) → ws ≡ drop s.taken vs → us ≡ Part s.place s.form i ∷ ws → us ≡ stacked s None i vs
stacked_none s i vs us ws d e = e ∙ ap (λ (xs : List Kept). Part s.place s.form i ∷ xs) d

pub moved_none : (m : Move) (vs us ws : List Kept) → m.below ≡ None → ws ≡ drop m.taken vs → us ≡ m.top ∷ ws → us ≡ moved m vs
moved_none m vs us ws b d e =
    e ∙ ap (λ (xs : List Kept). m.top ∷ xs) d ∙ ap (λ (o : Option Kept). m.top ∷ listed o ++ drop m.taken vs) (sym b)

pub moved_some : (m : Move) (v : Kept) (vs us xs ws : List Kept) → m.below ≡ Some v → ws ≡ drop m.taken vs → xs ≡ v ∷ ws → us ≡ m.top ∷ xs → us ≡ moved m vs
moved_some m v vs us xs ws b d e g =
    g ∙ ap (λ (ys : List Kept). m.top ∷ ys) (e ∙ ap (λ (ys : List Kept). v ∷ ys) d) ∙ ap (λ (o : Option Kept). m.top ∷ listed o ++ drop m.taken vs) (sym b)

pub leaf_fits : (text : List ℕ) (vs : List Kept) (p : Place) (f : Form) (n : Node) → parts n ≡ [] → names n ≡ [] → Fits text vs (tree 0 p f n) None
leaf_fits text vs p f n e g = record { within = omega arith; same = rw e done; named = rw g tt }

-- the same nodes, permuted
pub built_perm : (a : Arena) (vs us : List Kept) → AreBuilt a vs → Perm (nodes_of vs) (nodes_of us) → AreNamesIn a.text (names_of us) → AreBuilt a us
built_perm a vs us h p n =
    let w : ℕ → ℕ = λ i. size (tree_at a.text a.entries i) in
    record {
      roots = roots_perm a.entries p h.roots;
      named = n;
      count = h.count ∙ sizes_of_nodes a vs ∙ weigh_perm w p ∙ sym (sizes_of_nodes a us);
      last = λ j l. in_perm p j (h.last j l);
    }

-- a node without parts or names has one tree, whatever the others are
pub leaf_tree : (t u : List ℕ) (f g : ℕ → Tree) (p : Place) (n : Node) → parts n ≡ [] → names n ≡ [] → tree_of t f p n ≡ tree_of u g p n
leaf_tree t u f g p nodes.Nil e h = refl
leaf_tree t u f g p (nodes.Cons a b) e h = cc
leaf_tree t u f g p (nodes.PrimitiveType x) e h = refl
leaf_tree t u f g p (nodes.NamedType n) e h = cc
leaf_tree t u f g p (nodes.QualifiedType n o) e h = cc
leaf_tree t u f g p (nodes.GenericType a b) e h = cc
leaf_tree t u f g p (nodes.DiamondType a) e h = cc
leaf_tree t u f g p (nodes.ArrayType a) e h = cc
leaf_tree t u f g p (nodes.Number v) e h = refl
leaf_tree t u f g p (nodes.LongNumber v) e h = refl
leaf_tree t u f g p (nodes.Truth v) e h = refl
leaf_tree t u f g p nodes.Null e h = refl
leaf_tree t u f g p nodes.This e h = refl
leaf_tree t u f g p (nodes.Variable n) e h = cc
leaf_tree t u f g p (nodes.FieldAccess a n) e h = cc
leaf_tree t u f g p (nodes.ArrayAccess a b) e h = cc
leaf_tree t u f g p (nodes.Call n a) e h = cc
leaf_tree t u f g p (nodes.MethodCall a n b) e h = cc
leaf_tree t u f g p (nodes.SuperCall n a) e h = cc
leaf_tree t u f g p (nodes.ObjectCreation a b) e h = cc
leaf_tree t u f g p (nodes.ArrayCreation a b) e h = cc
leaf_tree t u f g p (nodes.Unary x a) e h = cc
leaf_tree t u f g p (nodes.Step x a) e h = cc
leaf_tree t u f g p (nodes.Binary x a b) e h = cc
leaf_tree t u f g p (nodes.InstanceOf a b) e h = cc
leaf_tree t u f g p (nodes.Conditional a b c) e h = cc
leaf_tree t u f g p (nodes.Cast a b) e h = cc
leaf_tree t u f g p (nodes.Assignment a b) e h = cc
leaf_tree t u f g p (nodes.CompoundAssignment x a b) e h = cc
leaf_tree t u f g p nodes.Result e h = refl
leaf_tree t u f g p (nodes.Old a) e h = cc
leaf_tree t u f g p nodes.Empty e h = refl
leaf_tree t u f g p (nodes.Block a) e h = cc
leaf_tree t u f g p (nodes.Local a b) e h = cc
leaf_tree t u f g p (nodes.Declarator n a) e h = cc
leaf_tree t u f g p (nodes.ExpressionStatement a) e h = cc
leaf_tree t u f g p (nodes.Return a) e h = cc
leaf_tree t u f g p nodes.Break e h = refl
leaf_tree t u f g p nodes.Continue e h = refl
leaf_tree t u f g p (nodes.IfThen a b) e h = cc
leaf_tree t u f g p (nodes.IfElse a b c) e h = cc
leaf_tree t u f g p (nodes.While a b) e h = cc
leaf_tree t u f g p (nodes.Do a b) e h = cc
leaf_tree t u f g p (nodes.For a b c d) e h = cc
leaf_tree t u f g p (nodes.Throw a) e h = cc
leaf_tree t u f g p (nodes.Try a b) e h = cc
leaf_tree t u f g p (nodes.Catch a b) e h = cc
leaf_tree t u f g p (nodes.ConstructorCall a) e h = cc
leaf_tree t u f g p (nodes.Class n a b) e h = cc
leaf_tree t u f g p (nodes.Field x y a b) e h = cc
leaf_tree t u f g p (nodes.Method x n a b) e h = cc
leaf_tree t u f g p (nodes.Signature a b c) e h = cc
leaf_tree t u f g p (nodes.Parameter a n) e h = cc
leaf_tree t u f g p (nodes.Constructor a b c) e h = cc
leaf_tree t u f g p (nodes.Requires a) e h = cc
leaf_tree t u f g p (nodes.Ensures a) e h = cc
leaf_tree t u f g p (nodes.Signals a b) e h = cc
