-- A walk over an expression with a list of nodes that wait, the next of them last.
use Rattle.std.proofs.Common.{◌≡◌, refl, sym, ap, ◌∙◌, subst, Bool, ℕ, ◌+◌, ◌<◌, List, [], ◌∷◌, ◌++◌, map, append_assoc, append-nil, arith}
use Rattle.std.specs.Prelude.{flat_map, fold, option_to_list, reverse, sum, Option}
use Rattle.std.specs.List.{AllByRecursion}
use Rattle.std.proofs.lemmas.List.{map-append, reverse-append, reverse-reverse}
use Rattle.std.proofs.lemmas.List.Concat.{flat_map-append}
use Rattle.kr_base.specs.declared.place.Place.{Place}
use Rattle.kr_ast.specs.declared.node.Node.{Node as AstNode}
use Rattle.kr_ast.specs.declared.node.Node.TheVariants as nodes
use Rattle.kr_ast.specs.declared.node.Entry.{Entry}
use Rattle.kr_ast.specs.Arena.{ArePartsFrom, parts, tree_of}
use Rattle.kr_ast.specs.Tree.{Tree, size}
use Rattle.kr_types_meaning.specs.Noting.{parts_of}
use Rattle.kr_types_meaning.specs.Running.{running}
use Rattle.kr_types_meaning.specs.Scopes.{Scope}
use Rattle.kr_mean.specs.Verdicts.{OldNode, old_in}
use Rattle.kr_types.specs.declared.program.Program.{Program}
use Rattle.kr_types.specs.Programs.{IsProgram}
use Rattle.kr_code_lowering.specs.declared.site.Site.{Site}
use Rattle.kr_code_lowering.specs.Origins.{Final, node_tree, numbering_of}
use Rattle.kr_code_lowering.specs.Sites.{IsHere, IsSite, arena_at, scope_at, tree_at}
use Rattle.kr_code_lowering.proofs.Parts.{part_scope}
use Rattle.kr_judge_prepared.specs.Tested.{old_shown}
use Rattle.kr_judge_prepared.specs.declared.contract.OldCode.{OldCode}
use Rattle.kr_judge_code.specs.Olds.{IsWalked, olds_below, olds_under, shown}
use Rattle.kr_judge_code.proofs.Parted.{olds_from, parted}

parts_map : (text : List ℕ) (look : ℕ → Tree) (p : Place) (n : AstNode) → parts_of (tree_of text look p n) ≡ map look (parts n)
parts_map text look p nodes.Nil = refl
parts_map text look p _ = refl

-- ---- a walk ends

-- the nodes of these trees
abbrev pub weights : (ℕ → Tree) → List ℕ → ℕ
weights look [] = 0
weights look (c ∷ cs) = size (look c) + weights look cs

abbrev pub weight : Program → ℕ → List ℕ → ℕ
weight p f cs = weights (node_tree p f) cs

-- a tree is a node, and the nodes of its parts
sized : (text : List ℕ) (look : ℕ → Tree) (p : Place) (n : AstNode) → size (tree_of text look p n) ≡ 1 + sum (map (λ c. size (look c)) (parts n))
sized text look p nodes.Nil = refl
sized text look p _ = refl

summed : (look : ℕ → Tree) (k : ℕ) (cs : List ℕ) → fold (λ (a x : ℕ). a + x) k (map (λ c. size (look c)) cs) ≡ k + weights look cs
summed look k [] = omega arith
summed look k (c ∷ cs) = let e = summed look (k + size (look c)) cs in omega (arith, e)

weights-append : (look : ℕ → Tree) (xs bs : List ℕ) → weights look (xs ++ bs) ≡ weights look xs + weights look bs
weights-append look [] bs = omega arith
weights-append look (a ∷ xs) bs = let e = weights-append look xs bs in omega (arith, e)

turned : (ns : List ℕ) (n : ℕ) → reverse (ns ++ n ∷ []) ≡ n ∷ reverse ns
turned ns n = reverse-append ns (n ∷ [])

turned_back : (ns cs : List ℕ) → reverse (ns ++ reverse cs) ≡ cs ++ reverse ns
turned_back ns cs = reverse-append ns (reverse cs) ∙ ap (λ (xs : List ℕ). xs ++ reverse ns) (reverse-reverse cs)

pub shrunk : (p : Program) (at : Site) (e : Entry) → IsHere p at e → (left left' rest ps : List ℕ) → left ≡ rest ++ at.node ∷ [] → ps ≡ parts e.node → left' ≡ rest ++ reverse ps → weight p at.file (reverse left') < weight p at.file (reverse left)
shrunk p at e here left left' rest ps l q m =
    let look = node_tree p at.file in
    let a : weight p at.file (reverse left') ≡ weights look (parts e.node) + weights look (reverse rest) =
    ap (λ (ns : List ℕ). weights look (reverse ns)) m ∙ (ap (weights look) (turned_back rest ps) ∙ (weights-append look ps (reverse rest) ∙ ap (λ (ns : List ℕ). weights look ns + weights look (reverse rest)) q)) in
    let b : weight p at.file (reverse left) ≡ size (look at.node) + weights look (reverse rest) = ap (λ (ns : List ℕ). weights look (reverse ns)) l ∙ ap (weights look) (turned rest at.node) in
    let c : size (look at.node) ≡ 1 + (0 + weights look (parts e.node)) = ap size here.tree ∙ (sized (arena_at p at).text look e.place e.node ∙ ap (λ (n : ℕ). 1 + n) (summed look 0 (parts e.node))) in
    omega (arith, a, b, c)

-- ---- a node and its parts

-- a node of a file that waits
pub record IsWaiting (p : Program) (file first node : ℕ) : Type 0 where
  pub site : IsSite p (record { file = file; node = node; first = first })
  pub walked : IsWalked (node_tree p file node)

module _ (q : Bool) (p : Program) (is : IsProgram p) (at : Site) (here : IsSite p at) where
  abbrev look : ℕ → Tree
  look = node_tree p at.file

  waiting_from : (j : ℕ) (cs : List ℕ) → ArePartsFrom (arena_at p at).entries at.node j cs → AllByRecursion IsWalked (map look cs) → AllByRecursion (IsWaiting p at.file at.first) cs
  waiting_from j [] ps w = tt
  waiting_from j (c ∷ cs) ps w = (
    record {
      site = record { file = here.file; node = (let b = ps.0.below in let n = here.node in omega (arith, b, n)); first = here.first };
      walked = w.0;
    },
    waiting_from (j + 1) cs ps.1 w.1,
  )

  olds_parts : (j : ℕ) (cs : List ℕ) → ArePartsFrom (arena_at p at).entries at.node j cs → olds_from q (scope_at p at) (tree_at p at) j (map look cs) ≡ flat_map (olds_below q p at.file) cs
  olds_parts j [] ps = refl
  olds_parts j (c ∷ cs) ps =
      ap (λ (x : Scope). olds_under q (running x) (look c) ++ olds_from q (scope_at p at) (tree_at p at) (j + 1) (map look cs)) (sym (part_scope p is at here j c ps.0))
      ∙ ap (λ (xs : List OldNode). olds_below q p at.file c ++ xs) (olds_parts (j + 1) cs ps.1)

  module _ (e : Entry) (entry : IsHere p at e) (walked : IsWalked (tree_at p at)) where
    parts_are : parts_of (tree_at p at) ≡ map look (parts e.node)
    parts_are = ap parts_of entry.tree ∙ parts_map (arena_at p at).text look e.place e.node

    pub parts_wait : AllByRecursion (IsWaiting p at.file at.first) (parts e.node)
    parts_wait = waiting_from 0 (parts e.node) entry.parts (subst (λ (ts : List Tree). AllByRecursion IsWalked ts) parts_are (parted q (scope_at p at) (tree_at p at) walked).walked)

    pub node_olds : olds_below q p at.file at.node ≡ old_in q (running (scope_at p at)) (tree_at p at) ++ flat_map (olds_below q p at.file) (parts e.node)
    node_olds =
        (parted q (scope_at p at) (tree_at p at) walked).olds
        ∙ (ap (λ (ts : List Tree). old_in q (running (scope_at p at)) (tree_at p at) ++ olds_from q (scope_at p at) (tree_at p at) 0 ts) parts_are
        ∙ ap (λ (xs : List OldNode). old_in q (running (scope_at p at)) (tree_at p at) ++ xs) (olds_parts 0 (parts e.node) entry.parts))

-- ---- the walk

all_append : (P : ℕ → Type 0) (xs bs : List ℕ) → AllByRecursion P xs → AllByRecursion P bs → AllByRecursion P (xs ++ bs)
all_append P [] bs h k = k
all_append P (a ∷ xs) bs h k = (h.0, all_append P xs bs h.1 k)

-- those that were there, those that were found, and those below what waits, are all
pub record IsOnWay (q : Bool) (p : Program) (from : Site) (before olds : List OldCode) (waiting : List ℕ) : Type 0 where
  pub stand : AllByRecursion (IsWaiting p from.file from.first) (reverse waiting)
  pub found : (final : Final) → shown p final olds ++ flat_map (olds_below q p from.file) (reverse waiting) ≡ shown p final before ++ olds_below q p from.file from.node

pub begun : (q : Bool) (p : Program) (from : Site) → IsSite p from → IsWalked (tree_at p from) → (olds : List OldCode) (none waiting : List ℕ) → none ≡ [] → waiting ≡ none ++ from.node ∷ [] → IsOnWay q p from olds olds waiting
begun q p from at walked olds none waiting empty pushed =
    subst (λ (ns : List ℕ). IsOnWay q p from olds olds ns) (sym (pushed ∙ ap (λ (ns : List ℕ). ns ++ from.node ∷ []) empty))
    (record {
      stand = (record { site = at; walked = walked }, tt);
      found = λ final. ap (λ (xs : List OldNode). shown p final olds ++ xs) (append-nil (olds_below q p from.file from.node));
    })

module _ (q : Bool) (p : Program) (is : IsProgram p) (from : Site) (before olds : List OldCode) (rest : List ℕ) (i : ℕ) (e : Entry) (way : IsOnWay q p from before olds (rest ++ i ∷ [])) where
  next : IsWaiting p from.file from.first i × AllByRecursion (IsWaiting p from.file from.first) (reverse rest)
  next = subst (λ (ns : List ℕ). AllByRecursion (IsWaiting p from.file from.first) ns) (turned rest i) way.stand

  abbrev at : Site
  at = record from { node = i }

  pub gone_on : IsHere p at e → (found : Option OldCode) → ((final : Final) → shown p final (option_to_list found) ≡ old_in q (running (scope_at p at)) (tree_at p at)) → IsOnWay q p from before (olds ++ option_to_list found) (rest ++ reverse (parts e.node))
  gone_on here found is_old = record {
    stand = subst (λ (ns : List ℕ). AllByRecursion (IsWaiting p from.file from.first) ns) (sym (turned_back rest (parts e.node))) (all_append (IsWaiting p from.file from.first) (parts e.node) (reverse rest) (parts_wait q p is at next.0.site e here next.0.walked) next.1);
    found = λ final.
        let old = shown p final olds in
        let one = shown p final (option_to_list found) in
        let waits = flat_map (olds_below q p from.file) (reverse rest) in
        let deep = flat_map (olds_below q p from.file) (parts e.node) in
        let all : flat_map (olds_below q p from.file) (reverse (rest ++ reverse (parts e.node))) ≡ deep ++ waits =
        ap (flat_map (olds_below q p from.file)) (turned_back rest (parts e.node)) ∙ flat_map-append (olds_below q p from.file) (parts e.node) (reverse rest) in
        let here_all : olds_below q p from.file i ≡ one ++ deep = node_olds q p is at next.0.site e here next.0.walked ∙ ap (λ (xs : List OldNode). xs ++ deep) (sym (is_old final)) in
        let was : flat_map (olds_below q p from.file) (reverse (rest ++ i ∷ [])) ≡ olds_below q p from.file i ++ waits = ap (flat_map (olds_below q p from.file)) (turned rest i) in
        ap (λ (xs : List OldNode). shown p final (olds ++ option_to_list found) ++ xs) all
        ∙ (ap (λ (xs : List OldNode). xs ++ (deep ++ waits)) (map-append (old_shown (numbering_of p final)) olds (option_to_list found))
        ∙ (append_assoc old one (deep ++ waits)
        ∙ (ap (λ (xs : List OldNode). old ++ xs) (sym (append_assoc one deep waits) ∙ (ap (λ (xs : List OldNode). xs ++ waits) (sym here_all) ∙ sym was))
        ∙ way.found final)));
  }

pub walked_on : (named : Bool) (p : Program) → IsProgram p → (from : Site) (before olds olds' : List OldCode) (left left' rest ps : List ℕ) (i : ℕ) (e : Entry) → IsHere p (record from { node = i }) e → (found : Option OldCode)
    → ((final : Final) → shown p final (option_to_list found) ≡ old_in named (running (scope_at p (record from { node = i }))) (tree_at p (record from { node = i })))
    → left ≡ rest ++ i ∷ [] → ps ≡ parts e.node → olds' ≡ olds ++ option_to_list found → left' ≡ rest ++ reverse ps → IsOnWay named p from before olds left → IsOnWay named p from before olds' left'
walked_on named p is from before olds olds' left left' rest ps i e here found is_old l q f m w =
    subst (λ (os : List OldCode). IsOnWay named p from before os left') (sym f)
    (subst (λ (ns : List ℕ). IsOnWay named p from before (olds ++ option_to_list found) ns) (sym (m ∙ ap (λ (ns : List ℕ). rest ++ reverse ns) q))
    (gone_on named p is from before olds rest i e (subst (λ (ns : List ℕ). IsOnWay named p from before olds ns) l w) here found is_old))

pub next_waits : (q : Bool) (p : Program) (from : Site) (before olds : List OldCode) (left rest : List ℕ) (i : ℕ) → left ≡ rest ++ i ∷ [] → IsOnWay q p from before olds left → IsWaiting p from.file from.first i
next_waits q p from before olds left rest i l w = (subst (λ (ns : List ℕ). AllByRecursion (IsWaiting p from.file from.first) ns) (ap reverse l ∙ turned rest i) w.stand).0
