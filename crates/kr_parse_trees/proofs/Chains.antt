-- Names with `<` between them become comparisons.
use Rattle.std.proofs.Common.{◌≡◌, ℕ, ◌⊎◌, inl, inr, zero, suc, ◌+◌, ◌<◌, ◌≤◌, true, false, List, [], ◌∷◌, ◌++◌, length, take, drop, Option, Some, None, refl, sym, ap, ◌∙◌, arith, subst}
use Rattle.std.specs.Prelude.{slice_get, slice_set}
use Rattle.std.proofs.lemmas.List.{take-set, drop-set-lt}
use Rattle.std.proofs.Math.ListN.{length-set}
use Rattle.std.proofs.lemmas.Bool.{false≢true, cases_lt}
use Rattle.kr_base.specs.declared.place.Place.{Place}
use Rattle.kr_base.specs.Places.{nowhere}
use Rattle.kr_ast.specs.declared.node.Name.{Name}
use Rattle.kr_ast.specs.declared.node.Node.TheVariants as nodes
use Rattle.kr_ast.specs.declared.node.BinaryOperator.TheVariants as binaries
use Rattle.kr_ast.specs.Tree.{Tree}
use Rattle.kr_ast.specs.Tree as trees
use Rattle.kr_ast.specs.Arena.{Arena, name_in, tree_of, tree_at, names, AreNamesIn}
use Rattle.kr_parse_grammar.specs.declared.value.Form.{Form}
use Rattle.kr_parse_grammar.specs.declared.value.Form.TheVariants as forms
use Rattle.kr_parse_grammar.specs.Values.{StackItem, mark, part}
use Rattle.kr_parse_grammar.specs.Made.{compared, joined}
use Rattle.kr_lex.specs.declared.kind.Kind.TheVariants.{Semicolon}
use Rattle.kr_parse_reduction.specs.declared.value.Kept.{Kept}
use Rattle.kr_parse_reduction.specs.declared.value.Kept.TheVariants.{Mark, Word, Pair, Part, Member, Owner}
use Rattle.kr_parse_reduction.specs.declared.value.Sort.TheVariants as sort
use Rattle.kr_parse_reduction.specs.declared.moves.Move.{Move}
use Rattle.kr_parse_reduction.specs.Perm.{Perm, done, keep, flip, onward}
use Rattle.kr_parse_reduction.specs.Kept.{are, place_in, place_at, node_at, form_at, value_at, value_in}
use Rattle.kr_parse_reduction.specs.Plans.{tree, type_node}
use Rattle.kr_parse_reduction.specs.Shown.{item, shown, nodes_of, names_of, AreBuilt, Fits, stacked, FitsMove, moved}
use Rattle.kr_parse_trees.specs.Chain.{is_name_in, is_named, AreNamed, operand, less_of, is_tree_at, without, test_of, Folding}
use Rattle.kr_parse_reduction.proofs.Roots.{perm_refl, perm_into, reverse_two}
use Rattle.kr_parse_reduction.specs.declared.plan.Plan.{Plan}
use Rattle.kr_parse_reduction.proofs.Planned.{on_part}
use Rattle.kr_parse_trees.proofs.Growing.{built_perm, shown_drop, nodes_append, names_append, in_join, in_front}

pub name_fits : (text : List ℕ) (vs : List Kept) (p : Place) (f : Form) (n : Name) → n.start ≤ n.end → n.end ≤ length text → Fits text vs (tree 0 p f (nodes.Variable n)) None
name_fits text vs p f n h k = record { within = omega arith; same = done; named = (h, k, tt) }

pub field_fits : (text : List ℕ) (vs ws : List Kept) (p : Place) (o n : Name) (i : ℕ) → n.start ≤ n.end → n.end ≤ length text → ws ≡ stacked (tree 0 p forms.Other (nodes.Variable o)) None i vs
    → Fits text ws (tree 1 p forms.Target (nodes.FieldAccess (node_at ws 0) n)) None
field_fits text vs ws p o n i h k e =
    subst (λ (zs : List Kept). Fits text zs (tree 1 p forms.Target (nodes.FieldAccess (node_at zs 0) n)) None) (sym e)
    (record { within = omega arith; same = perm_refl (i ∷ []); named = (h, k, tt) })

-- the names of one value
pub named_at : (text : List ℕ) (vs : List Kept) (i : ℕ) → AreNamesIn text (names_of vs) → AreNamesIn text (names_of (value_at vs i ∷ []))
named_at text [] i h = tt
named_at text (Part p f j ∷ vs) zero h = tt
named_at text (Mark k p ∷ vs) zero h = tt
named_at text (Word p n ∷ vs) zero h = (h.0, h.1, tt)
named_at text (Pair p o n ∷ vs) zero h = (h.0, h.1, (h.2.0, h.2.1, tt))
named_at text (Member b m ∷ vs) zero h = tt
named_at text (Owner b p n ∷ vs) zero h = (h.0, h.1, tt)
named_at text (Part p f j ∷ vs) (suc i) h = named_at text vs i h
named_at text (Mark k p ∷ vs) (suc i) h = named_at text vs i h
named_at text (Word p n ∷ vs) (suc i) h = named_at text vs i h.2
named_at text (Pair p o n ∷ vs) (suc i) h = named_at text vs i h.2.2
named_at text (Member b m ∷ vs) (suc i) h = named_at text vs i h
named_at text (Owner b p n ∷ vs) (suc i) h = named_at text vs i h.2

pub is_name_at : (vs : List Kept) (i : ℕ) → is_named vs i ≡ true → is_name_in (Some (value_at vs i)) ≡ true
is_name_at [] i e = absurd (false≢true e)
is_name_at (v ∷ vs) zero e = e
is_name_at (v ∷ vs) (suc i) e = is_name_at vs i e

-- an operand above a tree
pub less_fits : (text : List ℕ) (vs ws : List Kept) (p : Place) (i : ℕ) → are (sort.Part ∷ []) vs ≡ true → ws ≡ Part p forms.Target i ∷ vs
    → Fits text ws (tree 2 (place_at ws 1) forms.Other (nodes.Binary binaries.Less (node_at ws 1) (node_at ws 0))) None
less_fits text vs ws p i e =
    on_part [] (λ (us : List Kept). ws ≡ Part p forms.Target i ∷ us → Fits text ws (tree 2 (place_at ws 1) forms.Other (nodes.Binary binaries.Less (node_at ws 1) (node_at ws 0))) None) vs e
    (λ q f j us d g.
    subst (λ (zs : List Kept). Fits text zs (tree 2 (place_at zs 1) forms.Other (nodes.Binary binaries.Less (node_at zs 1) (node_at zs 0))) None) (sym g)
    (record { within = omega arith; same = reverse_two j i; named = tt }))

pub named_more : (vs : List Kept) (from to : ℕ) → AreNamed vs from to → is_named vs to ≡ true → AreNamed vs from (to + 1)
named_more vs from to h e = λ i l k. at (cases_lt i to) l k
  where
    at : {i : ℕ} → (i < to) ⊎ (to ≤ i) → from ≤ i → i < to + 1 → is_named vs i ≡ true
    at (inl m) l k = h _ l m
    at (inr m) l k = subst (λ (n : ℕ). is_named vs n ≡ true) (omega arith) e

-- the tree at a depth, pulled out
pub pulled_nodes : (vs : List Kept) (k : ℕ) → is_tree_at vs k ≡ true → Perm (nodes_of vs) (node_at vs k ∷ nodes_of (slice_set vs k (value_in None)))
pulled_nodes [] k e = absurd (false≢true e)
pulled_nodes (Part q g x ∷ vs) zero e = perm_refl (x ∷ nodes_of vs)
pulled_nodes (v ∷ vs) zero e = absurd (false≢true e)
pulled_nodes (Part q g x ∷ vs) (suc k) e = onward (keep x (pulled_nodes vs k e)) (flip x (node_at vs k) (nodes_of (slice_set vs k (value_in None))))
pulled_nodes (v ∷ vs) (suc k) e = pulled_nodes vs k e

pub pulled_names : (vs : List Kept) (k : ℕ) → is_tree_at vs k ≡ true → names_of (slice_set vs k (value_in None)) ≡ names_of vs
pulled_names [] k e = absurd (false≢true e)
pulled_names (Part q g x ∷ vs) zero e = refl
pulled_names (v ∷ vs) zero e = absurd (false≢true e)
pulled_names (Word p n ∷ vs) (suc k) e = ap (λ (ns : List Name). n ∷ ns) (pulled_names vs k e)
pulled_names (Pair p o n ∷ vs) (suc k) e = ap (λ (ns : List Name). o ∷ n ∷ ns) (pulled_names vs k e)
pulled_names (Owner b p n ∷ vs) (suc k) e = ap (λ (ns : List Name). n ∷ ns) (pulled_names vs k e)
pulled_names (v ∷ vs) (suc k) e = pulled_names vs k e

abbrev pub pulled : List Kept → ℕ → List Kept
pulled vs d = Part (place_at vs 0) (form_at vs 0) (node_at vs 0) ∷ Part (place_at vs d) (form_at vs d) (node_at vs d) ∷ without vs d

abbrev pub test : List Kept → ℕ → Plan
test vs d = tree 2 (place_at vs d) forms.Other (nodes.InstanceOf (node_at vs d) (node_at vs 0))

pub pulled_built : (a : Arena) (vs : List Kept) (d : ℕ) → AreBuilt a vs → are (sort.Part ∷ []) vs ≡ true → is_tree_at vs d ≡ true → 0 < d → AreBuilt a (pulled vs d)
pulled_built a vs zero h e g l = absurd (omega arith)
pulled_built a (Part p f t ∷ vs) (suc k) h e g l =
    built_perm a (Part p f t ∷ vs) (pulled (Part p f t ∷ vs) (suc k)) h (keep t (pulled_nodes vs k g)) (subst (AreNamesIn a.text) (sym (pulled_names vs k g)) h.named)
pulled_built a _ (suc k) h e g l = absurd (false≢true e)

pub pulled_fits : (text : List ℕ) (vs : List Kept) (d : ℕ) → Fits text (pulled vs d) (test vs d) None
pulled_fits text vs d = record { within = omega arith; same = reverse_two (node_at vs d) (node_at vs 0); named = tt }

pub tree_within : (vs : List Kept) (d : ℕ) → is_tree_at vs d ≡ true → d < length vs
tree_within [] d e = absurd (false≢true e)
tree_within (v ∷ vs) zero e = omega arith
tree_within (v ∷ vs) (suc d) e = omega (arith, tree_within vs d e)

pub name_within : (vs : List Kept) (d : ℕ) → is_named vs d ≡ true → d < length vs
name_within [] d e = absurd (false≢true e)
name_within (v ∷ vs) zero e = omega arith
name_within (v ∷ vs) (suc d) e = omega (arith, name_within vs d e)

-- the lowest name
got : (vs : List Kept) (d : ℕ) → is_named vs d ≡ true → slice_get vs d ≡ Some (value_at vs d)
got [] d e = absurd (false≢true e)
got (v ∷ vs) zero e = refl
got (v ∷ vs) (suc d) e = got vs d e

type_fits_of : (text : List ℕ) (ws : List Kept) (p : Place) (v : Kept) → is_name_in (Some v) ≡ true → AreNamesIn text (names_of (v ∷ [])) → Fits text ws (tree 0 p forms.Type (type_node (Some v))) None
type_fits_of text ws p (Word q n) e h = record { within = omega arith; same = done; named = (h.0, h.1, tt) }
type_fits_of text ws p (Pair q o n) e h = record { within = omega arith; same = done; named = (h.0, h.1, (h.2.0, h.2.1, tt)) }
type_fits_of text ws p _ e h = absurd (false≢true e)

pub type_fits : (text : List ℕ) (vs ws : List Kept) (p : Place) (d : ℕ) → is_named vs d ≡ true → AreNamesIn text (names_of vs) → Fits text ws (tree 0 p forms.Type (type_node (slice_get vs d))) None
type_fits text vs ws p d e h =
    subst (λ (o : Option Kept). Fits text ws (tree 0 p forms.Type (type_node o)) None) (sym (got vs d e))
    (type_fits_of text ws p (value_at vs d) (is_name_at vs d e) (named_at text vs d h))

folded_test : (a : Arena) (vs : List Kept) (d : ℕ) → is_named vs d ≡ true → is_tree_at vs (suc d) ≡ true
    → compared (shown a (drop d vs)) ≡ part (place_at vs (suc d)) forms.Other (trees.InstanceOf (place_at vs (suc d)) (tree_at a.text a.entries (node_at vs (suc d))) (tree_of a.text (tree_at a.text a.entries) (place_at vs d) (type_node (slice_get vs d)))) ∷ shown a (drop (suc (suc d)) vs)
folded_test a [] d e g = absurd (false≢true e)
folded_test a (Word p n ∷ Part q f x ∷ us) zero e g = refl
folded_test a (Pair p o n ∷ Part q f x ∷ us) zero e g = refl
folded_test a (Word p n ∷ _) zero e g = absurd (false≢true g)
folded_test a (Pair p o n ∷ _) zero e g = absurd (false≢true g)
folded_test a (v ∷ vs) zero e g = absurd (false≢true e)
folded_test a (v ∷ vs) (suc d) e g = folded_test a vs d e g

folded_plain : (a : Arena) (vs : List Kept) (d : ℕ) → is_named vs d ≡ true → is_named vs (suc d) ≡ false → is_tree_at vs (suc d) ≡ false
    → compared (shown a (drop d vs)) ≡ part (place_in (Some (value_at vs d))) forms.Target (operand a.text (value_at vs d)) ∷ shown a (drop (suc d) vs)
folded_plain a [] d e n g = absurd (false≢true e)
folded_plain a (Word p m ∷ []) zero e n g = refl
folded_plain a (Word p m ∷ Part q f x ∷ us) zero e n g = absurd (false≢true (sym g))
folded_plain a (Word p m ∷ Word q k ∷ us) zero e n g = absurd (false≢true (sym n))
folded_plain a (Word p m ∷ Pair q o k ∷ us) zero e n g = absurd (false≢true (sym n))
folded_plain a (Word p m ∷ v ∷ us) zero e n g = refl
folded_plain a (Pair p l m ∷ []) zero e n g = refl
folded_plain a (Pair p l m ∷ Part q f x ∷ us) zero e n g = absurd (false≢true (sym g))
folded_plain a (Pair p l m ∷ Word q k ∷ us) zero e n g = absurd (false≢true (sym n))
folded_plain a (Pair p l m ∷ Pair q o k ∷ us) zero e n g = absurd (false≢true (sym n))
folded_plain a (Pair p l m ∷ v ∷ us) zero e n g = refl
folded_plain a (v ∷ vs) zero e n g = absurd (false≢true e)
folded_plain a (v ∷ vs) (suc d) e n g = folded_plain a vs d e n g

tree_same : (a b : Arena) (vs : List Kept) (k : ℕ) → shown b vs ≡ shown a vs → is_tree_at vs k ≡ true → tree_at b.text b.entries (node_at vs k) ≡ tree_at a.text a.entries (node_at vs k)
tree_same a b [] k s e = absurd (false≢true e)
tree_same a b (Part p f i ∷ vs) zero s e = cc
tree_same a b (v ∷ vs) zero s e = absurd (false≢true e)
tree_same a b (v ∷ vs) (suc k) s e = let t : shown b vs ≡ shown a vs = cc in tree_same a b vs k t e

marked_same : (a b : Arena) (vs : List Kept) (k : ℕ) → shown b vs ≡ shown a vs → shown b (slice_set vs k (value_in None)) ≡ shown a (slice_set vs k (value_in None))
marked_same a b [] k s = refl
marked_same a b (v ∷ vs) zero s = let t : shown b vs ≡ shown a vs = cc in ap (λ (xs : List StackItem). mark Semicolon nowhere ∷ xs) t
marked_same a b (v ∷ vs) (suc k) s =
    let t : shown b vs ≡ shown a vs = cc in
    let i : item b v ≡ item a v = cc in
    let r = marked_same a b vs k t in cc

marked_bare : (vs : List Kept) (k : ℕ) → is_tree_at (slice_set vs k (value_in None)) k ≡ false
marked_bare [] k = refl
marked_bare (v ∷ vs) zero = refl
marked_bare (v ∷ vs) (suc k) = marked_bare vs k

abbrev pub TestFolds : Arena → Arena → Arena → List Kept → List Kept → List Kept → ℕ → ℕ → ℕ → ℕ → ℕ → Type 0
TestFolds a b1 b vs ws1 ws d i1 i n m =
    is_named vs d ≡ true → is_tree_at vs n ≡ true → ws1 ≡ Part (place_at vs d) forms.Type i1 ∷ vs
    → shown b1 ws1 ≡ part (place_at vs d) forms.Type (tree_of a.text (tree_at a.text a.entries) (place_at vs d) (type_node (slice_get vs d))) ∷ shown a vs → b1.text ≡ a.text
    → ws ≡ Part (place_at ws1 m) forms.Other i ∷ without ws1 m → shown b ws ≡ test_of b1 ws1 m ∷ shown b1 (without ws1 m) → b.text ≡ b1.text → AreBuilt b ws → Folding a vs b ws d n m

lowest_test_at : (a b1 b : Arena) (vs ws1 ws : List Kept) (d i1 i : ℕ) → TestFolds a b1 b vs ws1 ws d i1 i (suc d) (suc (suc d))
lowest_test_at a b1 b vs ws1 ws d i1 i e g e1 h1 t1 e2 h2 t2 built =
    let m : List Kept = slice_set vs (suc d) (value_in None) in
    let q : Place = place_at vs (suc d) in
    let c : List Kept = Part (place_at vs d) forms.Type i1 ∷ vs in
    let u : Tree = tree_of a.text (tree_at a.text a.entries) (place_at vs d) (type_node (slice_get vs d)) in
    let k1 : shown b1 c ≡ part (place_at vs d) forms.Type u ∷ shown a vs = subst (λ (zs : List Kept). shown b1 zs ≡ part (place_at vs d) forms.Type u ∷ shown a vs) e1 h1 in
    let s1 : shown b1 vs ≡ shown a vs = cc in
    let x1 : tree_at b1.text b1.entries i1 ≡ u = cc in
    let e3 : ws ≡ Part q forms.Other i ∷ m = subst (λ (zs : List Kept). ws ≡ Part (place_at zs (suc (suc d))) forms.Other i ∷ without zs (suc (suc d))) e1 e2 in
    let k2 : shown b ws ≡ test_of b1 c (suc (suc d)) ∷ shown b1 m = subst (λ (zs : List Kept). shown b ws ≡ test_of b1 zs (suc (suc d)) ∷ shown b1 (without zs (suc (suc d)))) e1 h2 in
    let k3 : shown b (Part q forms.Other i ∷ m) ≡ test_of b1 c (suc (suc d)) ∷ shown b1 m = ap (shown b) (sym e3) ∙ k2 in
    let s2 : shown b m ≡ shown b1 m = cc in
    let x2 : tree_at b.text b.entries i ≡ trees.InstanceOf q (tree_at b1.text b1.entries (node_at vs (suc d))) (tree_at b1.text b1.entries i1) = cc in
    let x3 = tree_same a b1 vs (suc d) s1 g in
    let f = folded_test a vs d e g in
    let l : drop (suc (suc d)) m ≡ drop (suc (suc d)) vs = drop-set-lt (suc (suc d)) vs (suc d) (value_in None) (omega arith) in
    let x4 : trees.InstanceOf q (tree_at a.text a.entries (node_at vs (suc d))) u ≡ tree_at b.text b.entries i = cc in
    record {
      place = q;
      form = forms.Other;
      node = i;
      others = m;
      kept = e3;
      same = take-set vs (suc d) (value_in None);
      text = t2 ∙ t1;
      shows = s2 ∙ marked_same a b1 vs (suc d) s1;
      folded = f ∙ ap (λ (t : Tree). part q forms.Other t ∷ shown a (drop (suc (suc d)) vs)) x4 ∙ ap (λ (zs : List Kept). part q forms.Other (tree_at b.text b.entries i) ∷ shown a zs) (sym l);
      built = built;
      beyond = omega arith;
      within = rw length-set (tree_within vs (suc d) g);
      bare = λ j h k. subst (λ (n : ℕ). is_tree_at m n ≡ false) (omega arith) (marked_bare vs (suc d));
    }

pub lowest_test : (a b1 b : Arena) (vs ws1 ws : List Kept) (d i1 i n m : ℕ) → n ≡ suc d → m ≡ suc (suc d) → TestFolds a b1 b vs ws1 ws d i1 i n m
lowest_test a b1 b vs ws1 ws d i1 i n m p q =
    subst (λ (k : ℕ). TestFolds a b1 b vs ws1 ws d i1 i n k) (sym q) (subst (λ (k : ℕ). TestFolds a b1 b vs ws1 ws d i1 i k (suc (suc d))) (sym p) (lowest_test_at a b1 b vs ws1 ws d i1 i))

abbrev pub PlainFolds : Arena → Arena → List Kept → List Kept → ℕ → ℕ → ℕ → Type 0
PlainFolds a b vs ws d i n =
    is_named vs d ≡ true → is_named vs n ≡ false → is_tree_at vs n ≡ false → ws ≡ Part (place_in (Some (value_at vs d))) forms.Target i ∷ vs
    → shown b ws ≡ part (place_in (Some (value_at vs d))) forms.Target (operand a.text (value_at vs d)) ∷ shown a vs → b.text ≡ a.text → AreBuilt b ws → Folding a vs b ws d n n

lowest_plain_at : (a b : Arena) (vs ws : List Kept) (d i : ℕ) → PlainFolds a b vs ws d i (suc d)
lowest_plain_at a b vs ws d i e n g e1 h1 t built =
    let p : Place = place_in (Some (value_at vs d)) in
    let k : shown b (Part p forms.Target i ∷ vs) ≡ part p forms.Target (operand a.text (value_at vs d)) ∷ shown a vs = ap (shown b) (sym e1) ∙ h1 in
    let s : shown b vs ≡ shown a vs = cc in
    let x : operand a.text (value_at vs d) ≡ tree_at b.text b.entries i = cc in
    record {
      place = p;
      form = forms.Target;
      node = i;
      others = vs;
      kept = e1;
      same = refl;
      text = t;
      shows = s;
      folded = folded_plain a vs d e n g ∙ ap (λ (u : Tree). part p forms.Target u ∷ shown a (drop (suc d) vs)) x;
      built = built;
      beyond = omega arith;
      within = name_within vs d e;
      bare = λ j h k. absurd (omega arith);
    }

pub lowest_plain : (a b : Arena) (vs ws : List Kept) (d i n : ℕ) → n ≡ suc d → PlainFolds a b vs ws d i n
lowest_plain a b vs ws d i n p = subst (λ (k : ℕ). PlainFolds a b vs ws d i k) (sym p) (lowest_plain_at a b vs ws d i)

-- a name more
folded_more : (a : Arena) (vs : List Kept) (j : ℕ) (r : Place) (f : Form) (x : Tree) (cs : List StackItem) → is_named vs j ≡ true → is_named vs (suc j) ≡ true → compared (shown a (drop (suc j) vs)) ≡ part r f x ∷ cs
    → compared (shown a (drop j vs)) ≡ part r forms.Other (trees.Binary r binaries.Less x (operand a.text (value_at vs j))) ∷ cs
folded_more a [] j r f x cs e g h = absurd (false≢true e)
folded_more a (Word p n ∷ Word q m ∷ us) zero r f x cs e g h = ap (joined p (trees.Variable p (name_in a.text n)) (trees.NamedType p (name_in a.text n)) (shown a (Word q m ∷ us))) h
folded_more a (Word p n ∷ Pair q o m ∷ us) zero r f x cs e g h = ap (joined p (trees.Variable p (name_in a.text n)) (trees.NamedType p (name_in a.text n)) (shown a (Pair q o m ∷ us))) h
folded_more a (Pair p l n ∷ Word q m ∷ us) zero r f x cs e g h = ap (joined p (operand a.text (Pair p l n)) (trees.QualifiedType p (name_in a.text l) (name_in a.text n)) (shown a (Word q m ∷ us))) h
folded_more a (Pair p l n ∷ Pair q o m ∷ us) zero r f x cs e g h = ap (joined p (operand a.text (Pair p l n)) (trees.QualifiedType p (name_in a.text l) (name_in a.text n)) (shown a (Pair q o m ∷ us))) h
folded_more a (Word p n ∷ _) zero r f x cs e g h = absurd (false≢true g)
folded_more a (Pair p l n ∷ _) zero r f x cs e g h = absurd (false≢true g)
folded_more a (v ∷ vs) zero r f x cs e g h = absurd (false≢true e)
folded_more a (v ∷ vs) (suc j) r f x cs e g h = folded_more a vs j r f x cs e g h

value_same : (n j : ℕ) (us vs : List Kept) → take n us ≡ take n vs → j < n → value_at us j ≡ value_at vs j
value_same zero j us vs e l = absurd (omega arith)
value_same (suc n) j [] [] e l = refl
value_same (suc n) j [] (v ∷ vs) e l = cc
value_same (suc n) j (u ∷ us) [] e l = cc
value_same (suc n) zero (u ∷ us) (v ∷ vs) e l = cc
value_same (suc n) (suc j) (u ∷ us) (v ∷ vs) e l = let t : take n us ≡ take n vs = cc in value_same n j us vs t (omega arith)

pub fold_step : (a b c : Arena) (vs ws xs : List Kept) (d j bottom past i : ℕ) → d ≡ suc j → Folding a vs b ws d bottom past → AreNamed vs j bottom → d < bottom
    → AreBuilt c xs → c.text ≡ b.text → xs ≡ Part (place_at ws 0) forms.Other i ∷ drop 1 ws → shown c xs ≡ less_of b ws d ∷ shown b (drop 1 ws) → Folding a vs c xs j bottom past
fold_step a b c vs ws xs d j bottom past i z h names l built t e s =
    let p : Place = h.place in
    let n : ℕ = h.node in
    let w : List Kept = h.others in
    let e1 : xs ≡ Part p forms.Other i ∷ w = subst (λ (zs : List Kept). xs ≡ Part (place_at zs 0) forms.Other i ∷ drop 1 zs) h.kept e in
    let s1 : shown c xs ≡ less_of b (Part p h.form n ∷ w) d ∷ shown b w = subst (λ (zs : List Kept). shown c xs ≡ less_of b zs d ∷ shown b (drop 1 zs)) h.kept s in
    let s2 : shown c xs ≡ less_of b (Part p h.form n ∷ w) (suc j) ∷ shown b w = subst (λ (k : ℕ). shown c xs ≡ less_of b (Part p h.form n ∷ w) k ∷ shown b w) z s1 in
    let s3 : shown c (Part p forms.Other i ∷ w) ≡ less_of b (Part p h.form n ∷ w) (suc j) ∷ shown b w = ap (shown c) (sym e1) ∙ s2 in
    let s4 : shown c w ≡ shown b w = cc in
    let x1 : tree_at c.text c.entries i ≡ trees.Binary p binaries.Less (tree_at b.text b.entries n) (operand b.text (value_at w j)) = cc in
    let v : value_at w j ≡ value_at vs j = value_same bottom j w vs h.same (omega arith) in
    let x2 : operand b.text (value_at w j) ≡ operand a.text (value_at vs j) = ap (λ (o : List ℕ). operand o (value_at w j)) h.text ∙ ap (operand a.text) v in
    let x3 : trees.Binary p binaries.Less (tree_at b.text b.entries n) (operand a.text (value_at vs j)) ≡ tree_at c.text c.entries i = cc in
    let f0 : compared (shown a (drop (suc j) vs)) ≡ part p h.form (tree_at b.text b.entries n) ∷ shown a (drop past w) = subst (λ (k : ℕ). compared (shown a (drop k vs)) ≡ part p h.form (tree_at b.text b.entries n) ∷ shown a (drop past w)) z h.folded in
    let f1 = folded_more a vs j p h.form (tree_at b.text b.entries n) (shown a (drop past w)) (names j (omega arith) (omega arith)) (names (suc j) (omega arith) (omega arith)) f0 in
    record {
      place = p;
      form = forms.Other;
      node = i;
      others = w;
      kept = e1;
      same = h.same;
      text = t ∙ h.text;
      shows = s4 ∙ h.shows;
      folded = f1 ∙ ap (λ (u : Tree). part p forms.Other u ∷ shown a (drop past w)) x3;
      built = built;
      beyond = h.beyond;
      within = h.within;
      bare = h.bare;
    }

pub top_is_tree : (vs ws : List Kept) (p : Place) (f : Form) (i : ℕ) → ws ≡ Part p f i ∷ vs → are (sort.Part ∷ []) ws ≡ true
top_is_tree vs ws p f i e = subst (λ (zs : List Kept). are (sort.Part ∷ []) zs ≡ true) (sym e) refl

pub tree_under : (vs ws : List Kept) (p : Place) (f : Form) (i n m : ℕ) → ws ≡ Part p f i ∷ vs → m ≡ suc n → is_tree_at vs n ≡ true → is_tree_at ws m ≡ true
tree_under vs ws p f i n m e q h =
    subst (λ (zs : List Kept). is_tree_at zs m ≡ true) (sym e) (subst (λ (k : ℕ). is_tree_at (Part p f i ∷ vs) k ≡ true) (sym q) h)

named_same : (n j : ℕ) (us vs : List Kept) → take n us ≡ take n vs → j < n → is_named us j ≡ is_named vs j
named_same zero j us vs e l = absurd (omega arith)
named_same (suc n) j [] [] e l = refl
named_same (suc n) j [] (v ∷ vs) e l = cc
named_same (suc n) j (u ∷ us) [] e l = cc
named_same (suc n) zero (u ∷ us) (v ∷ vs) e l = let q : u ≡ v = cc in ap (λ (k : Kept). is_name_in (Some k)) q
named_same (suc n) (suc j) (u ∷ us) (v ∷ vs) e l = let t : take n us ≡ take n vs = cc in named_same n j us vs t (omega arith)

pub named_under : (a b : Arena) (vs ws : List Kept) (k d j bottom past : ℕ) → Folding a vs b ws k bottom past → d ≡ suc j → j < bottom → is_named vs j ≡ true → is_named ws d ≡ true
named_under a b vs ws k d j bottom past h q l e =
    let n : is_named h.others j ≡ true = named_same bottom j h.others vs h.same l ∙ e in
    subst (λ (zs : List Kept). is_named zs d ≡ true) (sym h.kept) (subst (λ (m : ℕ). is_named (Part h.place h.form h.node ∷ h.others) m ≡ true) (sym q) n)

name_is_no_tree : (vs : List Kept) (i : ℕ) → is_named vs i ≡ true → is_tree_at vs i ≡ false
name_is_no_tree [] i e = refl
name_is_no_tree (Part p f x ∷ vs) zero e = absurd (false≢true e)
name_is_no_tree (v ∷ vs) zero e = refl
name_is_no_tree (v ∷ vs) (suc i) e = name_is_no_tree vs i e

fold_bare : (a b : Arena) (vs ws : List Kept) (start bottom past : ℕ) (h : Folding a vs b ws start bottom past) → AreNamed vs start bottom → (i : ℕ) → start ≤ i → i < past → is_tree_at h.others i ≡ false
fold_bare a b vs ws start bottom past h names i l k = at (cases_lt i bottom)
  where
    at : (i < bottom) ⊎ (bottom ≤ i) → is_tree_at h.others i ≡ false
    at (inl m) = name_is_no_tree h.others i (named_same bottom i h.others vs h.same m ∙ names i l m)
    at (inr m) = h.bare i m k

nodes_bare : (vs : List Kept) (n : ℕ) → ((i : ℕ) → i < n → is_tree_at vs i ≡ false) → nodes_of (take n vs) ≡ []
nodes_bare vs zero h = refl
nodes_bare [] (suc n) h = refl
nodes_bare (Part p f i ∷ vs) (suc n) h = absurd (false≢true (sym (h 0 (omega arith))))
nodes_bare (Mark k p ∷ vs) (suc n) h = nodes_bare vs n (λ i l. h (suc i) (omega arith))
nodes_bare (Word p m ∷ vs) (suc n) h = nodes_bare vs n (λ i l. h (suc i) (omega arith))
nodes_bare (Pair p o m ∷ vs) (suc n) h = nodes_bare vs n (λ i l. h (suc i) (omega arith))
nodes_bare (Member b m ∷ vs) (suc n) h = nodes_bare vs n (λ i l. h (suc i) (omega arith))
nodes_bare (Owner b p m ∷ vs) (suc n) h = nodes_bare vs n (λ i l. h (suc i) (omega arith))

-- the value on top replaces the names
abbrev pub AllMove : Arena → Arena → List Kept → List Kept → ℕ → Type 0
AllMove a b vs ws n = let m : Move = record { taken = n; top = value_at ws 0; below = None } in FitsMove b.text ws m × (shown b (moved m ws) ≡ compared (shown a vs))

pub all_move : (a b : Arena) (vs ws : List Kept) (bottom past n : ℕ) → n ≡ past + 1 → Folding a vs b ws 0 bottom past → AreNamed vs 0 bottom → AllMove a b vs ws n
all_move a b vs ws bottom past n q h names =
    let z : n ≡ suc past = omega arith in
    let bare : nodes_of (take past h.others) ≡ [] = nodes_bare h.others past (λ i l. fold_bare a b vs ws 0 bottom past h names i (omega arith) l) in
    let l : past ≤ length h.others = h.within in
    let e : shown b (drop past h.others) ≡ shown a (drop past h.others) = shown_drop b past h.others ∙ ap (drop past) h.shows ∙ sym (shown_drop a past h.others) in
    subst (λ (k : ℕ). AllMove a b vs ws k) (sym z)
    (subst (λ (zs : List Kept). AllMove a b vs zs (suc past)) (sym h.kept) (
      record {
        within = omega arith;
        same = subst (λ (is : List ℕ). Perm (h.node ∷ is) (h.node ∷ [])) (sym bare) (perm_refl (h.node ∷ []));
        named = tt;
      },
      ap (λ (xs : List StackItem). part h.place h.form (tree_at b.text b.entries h.node) ∷ xs) e ∙ sym h.folded,
    ))

abbrev pub BelowMove : Arena → Arena → List Kept → List Kept → ℕ → Type 0
BelowMove a b vs ws n = let m : Move = record { taken = n; top = value_at ws 1; below = slice_get ws 0 } in FitsMove b.text ws m × (shown b (moved m ws) ≡ take 1 (shown a vs) ++ compared (drop 1 (shown a vs)))

below_move_at : (a b : Arena) (vs w : List Kept) (p : Place) (f : Form) (i past bottom : ℕ) → 1 < bottom → bottom ≤ past → take bottom w ≡ take bottom vs → past ≤ length w → shown b w ≡ shown a w
    → compared (shown a (drop 1 vs)) ≡ part p f (tree_at b.text b.entries i) ∷ shown a (drop past w) → ((j : ℕ) → 1 ≤ j → j < past → is_tree_at w j ≡ false) → AreNamesIn b.text (names_of w)
    → BelowMove a b vs (Part p f i ∷ w) (suc past)
below_move_at a b vs [] p f i past bottom l k e g s c bare n = absurd (omega arith)
below_move_at a b vs (v ∷ w) p f i zero bottom l k e g s c bare n = absurd (omega arith)
below_move_at a b vs (v ∷ w) p f i (suc past) zero l k e g s c bare n = absurd (omega arith)
below_move_at a b [] (v ∷ w) p f i (suc past) (suc bottom) l k e g s c bare n = cc
below_move_at a b (u ∷ vs) (v ∷ w) p f i (suc past) (suc bottom) l k e g s c bare n =
    let q : v ≡ u = cc in
    let x : item b v ≡ item a v = cc in
    let y : item a v ≡ item a u = ap (item a) q in
    let t : shown b w ≡ shown a w = cc in
    let z : nodes_of (take past w) ≡ [] = nodes_bare w past (λ j h. bare (suc j) (omega arith) (omega arith)) in
    let m1 : nodes_of (v ∷ take past w) ≡ nodes_of (v ∷ []) ++ [] = nodes_append (v ∷ []) (take past w) ∙ ap (λ (is : List ℕ). nodes_of (v ∷ []) ++ is) z in
    let m2 : nodes_of (v ∷ Part p f i ∷ []) ≡ nodes_of (v ∷ []) ++ i ∷ [] = nodes_append (v ∷ []) (Part p f i ∷ []) in
    let d : shown b (drop past w) ≡ shown a (drop past w) = shown_drop b past w ∙ ap (drop past) t ∙ sym (shown_drop a past w) in
    let n1 = subst (AreNamesIn b.text) (names_append (v ∷ []) w) n in (
      record {
        within = omega arith;
        same = subst (λ (is : List ℕ). Perm (i ∷ is) (nodes_of (v ∷ Part p f i ∷ []))) (sym m1) (subst (λ (is : List ℕ). Perm (i ∷ (nodes_of (v ∷ []) ++ [])) is) (sym m2) (perm_into i (nodes_of (v ∷ [])) []));
        named = subst (AreNamesIn b.text) (sym (names_append (v ∷ []) (Part p f i ∷ []))) (in_join b.text (names_of (v ∷ [])) [] (in_front b.text (names_of (v ∷ [])) (names_of w) n1) tt);
      },
      ap (λ (xs : List StackItem). item b v ∷ part p f (tree_at b.text b.entries i) ∷ xs) d ∙ ap (λ (o : StackItem). o ∷ part p f (tree_at b.text b.entries i) ∷ shown a (drop past w)) (x ∙ y) ∙ ap (λ (xs : List StackItem). item a u ∷ xs) (sym c),
    )

pub below_move : (a b : Arena) (vs ws : List Kept) (bottom past n : ℕ) → n ≡ past + 1 → 1 < bottom → Folding a vs b ws 1 bottom past → AreNamed vs 1 bottom → BelowMove a b vs ws n
below_move a b vs ws bottom past n q l h names =
    let z : n ≡ suc past = omega arith in
    let r = subst (λ (zs : List Kept). AreNamesIn b.text (names_of zs)) h.kept h.built.named in
    subst (λ (k : ℕ). BelowMove a b vs ws k) (sym z)
    (subst (λ (zs : List Kept). BelowMove a b vs zs (suc past)) (sym h.kept)
    (below_move_at a b vs h.others h.place h.form h.node past bottom l h.beyond h.same h.within h.shows h.folded (fold_bare a b vs ws 1 bottom past h names) r))

-- where no name is on top, there is nothing to compare
pub compared_none : (a : Arena) (vs : List Kept) → is_named vs 0 ≡ false → compared (shown a vs) ≡ shown a vs
compared_none a [] e = refl
compared_none a (Word p n ∷ vs) e = absurd (false≢true (sym e))
compared_none a (Pair p o n ∷ vs) e = absurd (false≢true (sym e))
compared_none a (v ∷ vs) e = refl

pub below_none : (a : Arena) (vs : List Kept) → is_named vs 1 ≡ false → take 1 (shown a vs) ++ compared (drop 1 (shown a vs)) ≡ shown a vs
below_none a [] e = refl
below_none a (v ∷ vs) e = ap (λ (xs : List StackItem). item a v ∷ xs) (compared_none a vs e)
