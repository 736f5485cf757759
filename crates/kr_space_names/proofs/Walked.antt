-- A walk over a tree with a list of nodes that are left, the next of them last.
use Rattle.std.proofs.Common.{◌≡◌, ℕ, zero, suc, ◌+◌, ◌-◌, ◌*◌, ◌<◌, ◌≤◌, inl, inr, List, [], ◌∷◌, ◌++◌, length, map, All, refl, sym, ap, subst, ◌∙◌, cond, Bool, true, false, append_assoc, append-nil, arith}
use Rattle.std.specs.Prelude.{flat_map, reverse}
use Rattle.std.specs.List.{AllByRecursion}
use Rattle.std.proofs.lemmas.List.{map-append, reverse-append, reverse-reverse}
use Rattle.std.proofs.lemmas.List.Concat.{flat_map-append}
use Rattle.std.proofs.lemmas.List.Elements.{All-append, All-nil, All-from_recursion}
use Rattle.std.proofs.lemmas.Bool.{cases_lt}
use Rattle.kr_base.specs.declared.place.Place.{Place}
use Rattle.kr_ast.specs.declared.node.Node.{Node}
use Rattle.kr_ast.specs.declared.node.Node.TheVariants as kinds
use Rattle.kr_ast.specs.declared.node.Entry.{Entry}
use Rattle.kr_ast.specs.Tree.{Tree}
use Rattle.kr_ast.specs.Arena.{Arena, ArePartsFrom, parts, root, tree_in, tree_of}
use Rattle.kr_classes_table.specs.Nodes.{nodes}
use Rattle.kr_space_names.specs.Walks.{is_link, own}

pair : (xs bs : List Tree) → xs ++ bs ≡ xs ++ (bs ++ [])
pair xs bs = ap (λ (ts : List Tree). xs ++ ts) (sym (append-nil bs))

one : {t : Tree} (xs : List Tree) → t ∷ xs ≡ t ∷ (xs ++ [])
one {t = t} xs = ap (λ (ts : List Tree). t ∷ ts) (sym (append-nil xs))

two : {t : Tree} (xs bs : List Tree) → t ∷ (xs ++ bs) ≡ t ∷ (xs ++ (bs ++ []))
two {t = t} xs bs = ap (λ (ts : List Tree). t ∷ ts) (pair xs bs)

three : {t : Tree} (xs bs cs : List Tree) → t ∷ (xs ++ bs ++ cs) ≡ t ∷ (xs ++ (bs ++ (cs ++ [])))
three {t = t} xs bs cs = ap (λ (ts : List Tree). t ∷ ts) (append_assoc xs bs cs ∙ ap (λ (ts : List Tree). xs ++ ts) (pair bs cs))

four : {t : Tree} (xs bs cs ds : List Tree) → t ∷ (xs ++ bs ++ cs ++ ds) ≡ t ∷ (xs ++ (bs ++ (cs ++ (ds ++ []))))
four {t = t} xs bs cs ds = ap (λ (ts : List Tree). t ∷ ts) (append_assoc (xs ++ bs) cs ds ∙ (append_assoc xs bs (cs ++ ds) ∙ ap (λ (ts : List Tree). xs ++ (bs ++ ts)) (pair cs ds)))

abbrev itself : Bool → Tree → List Tree
itself linked t = cond linked [] (t ∷ [])

-- a node's nodes are itself and those of its parts
parted : (text : List ℕ) (look : ℕ → Tree) (p : Place) (n : Node) → nodes (tree_of text look p n) ≡ itself (is_link n) (tree_of text look p n) ++ flat_map (λ c. nodes (look c)) (parts n)
parted text look p kinds.Nil = refl
parted text look p (kinds.Cons a b) = pair (nodes (look a)) (nodes (look b))
parted text look p (kinds.PrimitiveType x) = refl
parted text look p (kinds.NamedType n) = refl
parted text look p (kinds.QualifiedType n o) = refl
parted text look p (kinds.GenericType a b) = two (nodes (look a)) (nodes (look b))
parted text look p (kinds.DiamondType a) = one (nodes (look a))
parted text look p (kinds.ArrayType a) = one (nodes (look a))
parted text look p (kinds.Number v) = refl
parted text look p (kinds.LongNumber v) = refl
parted text look p (kinds.Truth v) = refl
parted text look p kinds.Null = refl
parted text look p kinds.This = refl
parted text look p (kinds.Variable n) = refl
parted text look p (kinds.FieldAccess a n) = one (nodes (look a))
parted text look p (kinds.ArrayAccess a b) = two (nodes (look a)) (nodes (look b))
parted text look p (kinds.Call n a) = one (nodes (look a))
parted text look p (kinds.MethodCall a n b) = two (nodes (look a)) (nodes (look b))
parted text look p (kinds.SuperCall n a) = one (nodes (look a))
parted text look p (kinds.ObjectCreation a b) = two (nodes (look a)) (nodes (look b))
parted text look p (kinds.ArrayCreation a b) = two (nodes (look a)) (nodes (look b))
parted text look p (kinds.Unary x a) = one (nodes (look a))
parted text look p (kinds.Step x a) = one (nodes (look a))
parted text look p (kinds.Binary x a b) = two (nodes (look a)) (nodes (look b))
parted text look p (kinds.InstanceOf a b) = two (nodes (look a)) (nodes (look b))
parted text look p (kinds.Conditional a b c) = three (nodes (look a)) (nodes (look b)) (nodes (look c))
parted text look p (kinds.Cast a b) = two (nodes (look a)) (nodes (look b))
parted text look p (kinds.Assignment a b) = two (nodes (look a)) (nodes (look b))
parted text look p (kinds.CompoundAssignment x a b) = two (nodes (look a)) (nodes (look b))
parted text look p kinds.Result = refl
parted text look p (kinds.Old a) = one (nodes (look a))
parted text look p kinds.Empty = refl
parted text look p (kinds.Block a) = one (nodes (look a))
parted text look p (kinds.Local a b) = two (nodes (look a)) (nodes (look b))
parted text look p (kinds.Declarator n a) = one (nodes (look a))
parted text look p (kinds.ExpressionStatement a) = one (nodes (look a))
parted text look p (kinds.Return a) = one (nodes (look a))
parted text look p kinds.Break = refl
parted text look p kinds.Continue = refl
parted text look p (kinds.IfThen a b) = two (nodes (look a)) (nodes (look b))
parted text look p (kinds.IfElse a b c) = three (nodes (look a)) (nodes (look b)) (nodes (look c))
parted text look p (kinds.While a b) = two (nodes (look a)) (nodes (look b))
parted text look p (kinds.Do a b) = two (nodes (look a)) (nodes (look b))
parted text look p (kinds.For a b c d) = four (nodes (look a)) (nodes (look b)) (nodes (look c)) (nodes (look d))
parted text look p (kinds.Throw a) = one (nodes (look a))
parted text look p (kinds.Try a b) = two (nodes (look a)) (nodes (look b))
parted text look p (kinds.Catch a b) = two (nodes (look a)) (nodes (look b))
parted text look p (kinds.ConstructorCall a) = one (nodes (look a))
parted text look p (kinds.Class n a b) = two (nodes (look a)) (nodes (look b))
parted text look p (kinds.Field x y a b) = two (nodes (look a)) (nodes (look b))
parted text look p (kinds.Method x n a b) = two (nodes (look a)) (nodes (look b))
parted text look p (kinds.Signature a b c) = three (nodes (look a)) (nodes (look b)) (nodes (look c))
parted text look p (kinds.Parameter a n) = one (nodes (look a))
parted text look p (kinds.Constructor a b c) = three (nodes (look a)) (nodes (look b)) (nodes (look c))
parted text look p (kinds.Requires a) = one (nodes (look a))
parted text look p (kinds.Ensures a) = one (nodes (look a))
parted text look p (kinds.Signals a b) = two (nodes (look a)) (nodes (look b))

abbrev nodes_at : Arena → List ℕ → List Tree
nodes_at tree ns = flat_map (λ n. nodes (tree_in tree n)) ns

abbrev AreIn : Arena → List ℕ → Type 0
AreIn tree ns = AllByRecursion (λ n. n < length tree.entries) ns

-- the nodes that were found, and those of what is left, are all
pub record IsWalked (tree : Arena) (found left : List ℕ) : Type 0 where
  pub within : All (λ n. n < length tree.entries) found
  pub left_within : AreIn tree (reverse left)
  pub shown : map (tree_in tree) found ++ nodes_at tree (reverse left) ≡ nodes (root tree)

turned : (ns : List ℕ) (n : ℕ) → reverse (ns ++ n ∷ []) ≡ n ∷ reverse ns
turned ns n = reverse-append ns (n ∷ [])

pub next_within : (tree : Arena) (found left : List ℕ) (n : ℕ) → IsWalked tree found (left ++ n ∷ []) → n < length tree.entries
next_within tree found left n w = (subst (AreIn tree) (turned left n) w.left_within).0

parts_below : (es : List Entry) (i j : ℕ) (cs : List ℕ) → ArePartsFrom es i j cs → AllByRecursion (λ c. c < i) cs
parts_below es i j [] h = tt
parts_below es i j (c ∷ cs) h = (h.0.below, parts_below es i (j + 1) cs h.1)

both_in : (tree : Arena) (xs bs : List ℕ) → AreIn tree xs → AreIn tree bs → AreIn tree (xs ++ bs)
both_in tree [] bs h k = k
both_in tree (a ∷ xs) bs h k = (h.0, both_in tree xs bs h.1 k)

all_in : (tree : Arena) (i : ℕ) (cs : List ℕ) → i < length tree.entries → AllByRecursion (λ c. c < i) cs → AreIn tree cs
all_in tree i [] l h = tt
all_in tree i (c ∷ cs) l h = (let b = h.0 in omega (arith, b, l), all_in tree i cs l h.1)

own_in : (tree : Arena) (i : ℕ) (n : Node) → i < length tree.entries → All (λ n. n < length tree.entries) (own n i)
own_in tree i n h = go (is_link n)
  where
    go : (b : Bool) → All (λ n. n < length tree.entries) (cond b [] (i ∷ []))
    go true = All-nil (λ n. n < length tree.entries)
    go false = All-from_recursion (λ n. n < length tree.entries) (i ∷ []) (h, tt)

own_shown : (tree : Arena) (i : ℕ) (n : Node) → map (tree_in tree) (own n i) ≡ itself (is_link n) (tree_in tree i)
own_shown tree i n = go (is_link n)
  where
    go : (b : Bool) → map (tree_in tree) (cond b [] (i ∷ [])) ≡ itself b (tree_in tree i)
    go true = refl
    go false = refl

-- one node further: it is found where it is one, and its parts are left
pub walk_goes_on : (tree : Arena) (found left : List ℕ) (i : ℕ) (e : Entry) → ArePartsFrom tree.entries i 0 (parts e.node) → tree_in tree i ≡ tree_of tree.text (tree_in tree) e.place e.node
    → IsWalked tree found (left ++ i ∷ []) → IsWalked tree (found ++ own e.node i) (left ++ reverse (parts e.node))
walk_goes_on tree found left i e ps t w = record {
  within = All-append (λ (n : ℕ). n < length tree.entries) found (own e.node i) w.within (own_in tree i e.node here);
  left_within = subst (AreIn tree) (sym rest) (both_in tree (parts e.node) (reverse left) (all_in tree i (parts e.node) here (parts_below tree.entries i 0 (parts e.node) ps)) (subst (AreIn tree) (turned left i) w.left_within).1);
  shown =
      ap (λ (ts : List Tree). ts ++ nodes_at tree (reverse (left ++ reverse (parts e.node)))) (map-append (tree_in tree) found (own e.node i))
      ∙ append_assoc (map (tree_in tree) found) (map (tree_in tree) (own e.node i)) (nodes_at tree (reverse (left ++ reverse (parts e.node))))
      ∙ ap (λ (ts : List Tree). map (tree_in tree) found ++ ts) all
      ∙ w.shown;
}
  where
    here : i < length tree.entries
    here = next_within tree found left i w

    rest : reverse (left ++ reverse (parts e.node)) ≡ parts e.node ++ reverse left
    rest = reverse-append left (reverse (parts e.node)) ∙ ap (λ (ns : List ℕ). ns ++ reverse left) (reverse-reverse (parts e.node))

    node : nodes (tree_in tree i) ≡ map (tree_in tree) (own e.node i) ++ nodes_at tree (parts e.node)
    node =
        ap nodes t ∙ parted tree.text (tree_in tree) e.place e.node
        ∙ ap (λ (u : Tree). itself (is_link e.node) u ++ nodes_at tree (parts e.node)) (sym t)
        ∙ ap (λ (ts : List Tree). ts ++ nodes_at tree (parts e.node)) (sym (own_shown tree i e.node))

    all : map (tree_in tree) (own e.node i) ++ nodes_at tree (reverse (left ++ reverse (parts e.node))) ≡ nodes_at tree (reverse (left ++ i ∷ []))
    all =
        ap (λ (ns : List ℕ). map (tree_in tree) (own e.node i) ++ nodes_at tree ns) rest
        ∙ ap (λ (ts : List Tree). map (tree_in tree) (own e.node i) ++ ts) (flat_map-append (λ (n : ℕ). nodes (tree_in tree n)) (parts e.node) (reverse left))
        ∙ sym (append_assoc (map (tree_in tree) (own e.node i)) (nodes_at tree (parts e.node)) (nodes_at tree (reverse left)))
        ∙ ap (λ (ts : List Tree). ts ++ nodes_at tree (reverse left)) (sym node)
        ∙ ap (nodes_at tree) (sym (turned left i))

pub walked_on : (tree : Arena) (found found' left left' rest ps : List ℕ) (i : ℕ) (e : Entry) → ArePartsFrom tree.entries i 0 (parts e.node) → tree_in tree i ≡ tree_of tree.text (tree_in tree) e.place e.node
    → left ≡ rest ++ i ∷ [] → ps ≡ parts e.node → found' ≡ found ++ own e.node i → left' ≡ rest ++ reverse ps → IsWalked tree found left → IsWalked tree found' left'
walked_on tree found found' left left' rest ps i e h t l p f m w =
    subst (λ (ns : List ℕ). IsWalked tree ns left') (sym f)
    (subst (λ (ns : List ℕ). IsWalked tree (found ++ own e.node i) ns) (sym (m ∙ ap (λ (ns : List ℕ). rest ++ reverse ns) p))
    (walk_goes_on tree found rest i e h t (subst (λ (ns : List ℕ). IsWalked tree found ns) l w)))

-- ---- a walk ends: a node has at most four parts, which come before it

abbrev pub power : ℕ → ℕ
power zero = 1
power (suc n) = 5 * power n

abbrev pub weight : List ℕ → ℕ
weight [] = 0
weight (n ∷ ns) = power n + weight ns

power_some : (n : ℕ) → 0 < power n
power_some zero = omega arith
power_some (suc n) = let h = power_some n in omega (arith, h)

power_up : (c i : ℕ) → c < i → 5 * power c ≤ power i
power_up c zero h = absurd (omega (arith, h))
power_up c (suc i) h = elim (cases_lt c i) [
  | inl l ↦ (let b = power_up c i l in omega (arith, b))
  | inr l ↦ (let e : c ≡ i = omega (arith, h, l) in subst (λ (k : ℕ). 5 * power c ≤ 5 * power k) e (omega arith))
]

few : (i : ℕ) (cs : List ℕ) → length cs ≤ 4 → AllByRecursion (λ c. c < i) cs → weight cs < power i
few i [] l h = power_some i
few i (a ∷ []) l h = let p = power_some i in let x = power_up a i h.0 in omega (arith, p, x)
few i (a ∷ b ∷ []) l h = let p = power_some i in let x = power_up a i h.0 in let y = power_up b i h.1.0 in omega (arith, p, x, y)
few i (a ∷ b ∷ c ∷ []) l h = let p = power_some i in let x = power_up a i h.0 in let y = power_up b i h.1.0 in let z = power_up c i h.1.1.0 in omega (arith, p, x, y, z)
few i (a ∷ b ∷ c ∷ d ∷ []) l h = let p = power_some i in let x = power_up a i h.0 in let y = power_up b i h.1.0 in let z = power_up c i h.1.1.0 in let w = power_up d i h.1.1.1.0 in omega (arith, p, x, y, z, w)
few i (a ∷ b ∷ c ∷ d ∷ e ∷ more) l h = absurd (omega (arith, l))

weight-append : (xs bs : List ℕ) → weight (xs ++ bs) ≡ weight xs + weight bs
weight-append [] bs = omega arith
weight-append (a ∷ xs) bs = let e = weight-append xs bs in omega (arith, e)

pub walk_shrinks : (tree : Arena) (left ps : List ℕ) (i j : ℕ) → ArePartsFrom tree.entries i j ps → length ps ≤ 4 → weight (reverse (left ++ reverse ps)) < weight (reverse (left ++ i ∷ []))
walk_shrinks tree left ps i j h l =
    let a : weight (reverse (left ++ reverse ps)) ≡ weight ps + weight (reverse left) =
    ap weight (reverse-append left (reverse ps) ∙ ap (λ (ns : List ℕ). ns ++ reverse left) (reverse-reverse ps)) ∙ weight-append ps (reverse left) in
    let b : weight (reverse (left ++ i ∷ [])) ≡ power i + weight (reverse left) = ap weight (turned left i) in
    let c = few i ps l (parts_below tree.entries i j ps h) in
    omega (arith, a, b, c)

pub shrunk : (tree : Arena) (left left' rest ps qs : List ℕ) (i : ℕ) → ArePartsFrom tree.entries i 0 qs → left ≡ rest ++ i ∷ [] → ps ≡ qs → length ps ≤ 4 → left' ≡ rest ++ reverse ps → weight (reverse left') < weight (reverse left)
shrunk tree left left' rest ps qs i h l p f m =
    subst (λ (ns : List ℕ). weight (reverse ns) < weight (reverse left)) (sym m)
    (subst (λ (ns : List ℕ). weight (reverse (rest ++ reverse ps)) < weight (reverse ns)) (sym l)
    (walk_shrinks tree rest ps i 0 (subst (ArePartsFrom tree.entries i 0) (sym p) h) f))
