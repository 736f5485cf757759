-- The conditions of contracts.
use Rattle.std.proofs.Common.{◌≡◌, refl, sym, ap, ◌∙◌, subst, ℕ, List, [], ◌∷◌, All, append-nil, arith}
use Rattle.std.proofs.lemmas.List.Elements.{All-nil, All-cons, All-head, All-tail}
use Rattle.std.specs.Prelude.{map, flat_map}
use Rattle.kr_base.specs.declared.place.Place.{Place}
use Rattle.kr_ast.specs.declared.node.Node.{Node as AstNode}
use Rattle.kr_ast.specs.declared.node.Node.TheVariants as nodes
use Rattle.kr_ast.specs.declared.node.Entry.{Entry}
use Rattle.kr_ast.specs.Arena.{Arena, ArePartsFrom, IsPart, parts, tree_in, tree_of}
use Rattle.kr_ast.specs.Tree as trees
use Rattle.kr_ast.specs.Tree.{Tree}
use Rattle.kr_classes_table.specs.Table.{items}
use Rattle.kr_types_meaning.specs.Scopes.{Scope, Signalling, after, in_contract}
use Rattle.kr_types_meaning.specs.Handing.{handed}
use Rattle.kr_types_meaning.specs.Running.{running}
use Rattle.kr_laws_types.specs.Derivation.{AreContractLines, IsContractLine, IsExpression}
use Rattle.kr_types.specs.declared.program.Program.{Program}
use Rattle.kr_types.specs.Programs.{IsProgram}
use Rattle.kr_mean.specs.Code.{Node, code}
use Rattle.kr_pure.proofs.Nodes.{expression}
use Rattle.kr_code_members.specs.Nodes.{arena_at, node_scope, node_tree}
use Rattle.kr_code_members.specs.Walk.{AreStill, IsIn}
use Rattle.kr_pure.specs.declared.conditions.Side.{Side}
use Rattle.kr_pure.specs.declared.conditions.Side.TheVariants as sides
use Rattle.kr_laws_types.proofs.Loops.{running_same}
use Rattle.kr_ast.specs.declared.files.NodeId.{NodeId}
use Rattle.kr_pure.specs.Entries.{Enter, IsCondition, IsLine, code_at, line_code, stated}
use Rattle.kr_pure.proofs.Entered.{one_entered}
use Rattle.kr_pure.proofs.Files.{part_scope}

-- a line with the node of its condition, after that of what a `signals` declares
pub data Line : Type 0 where
  requires : ℕ → Line
  ensures : ℕ → Line
  signals : ℕ → ℕ → Line

abbrev pub side_of : Line → Side
side_of (requires c) = sides.Required
side_of (ensures c) = sides.Ensured
side_of (signals d c) = sides.Ensured

abbrev pub line_node : Line → AstNode
line_node (requires c) = nodes.Requires c
line_node (ensures c) = nodes.Ensures c
line_node (signals d c) = nodes.Signals d c

abbrev pub condition : Line → ℕ
condition (requires c) = c
condition (ensures c) = c
condition (signals d c) = c

abbrev position : Line → ℕ
position (requires c) = 0
position (ensures c) = 0
position (signals d c) = 1

part_there : (l : Line) (entries : List Entry) (i : ℕ) → ArePartsFrom entries i 0 (parts (line_node l)) → IsPart entries i (position l) (condition l)
part_there (requires c) entries i h = h.0
part_there (ensures c) entries i h = h.0
part_there (signals d c) entries i h = h.1.0

abbrev one_node : Scope → Tree → List Node
one_node s t = record { scope = s; tree = t } ∷ []

states : (l : Line) (s : Scope) (text : List ℕ) (look : ℕ → Tree) (q : Place)
    → stated (side_of l) (running s) (tree_of text look q (line_node l)) ≡ one_node (running (handed s (tree_of text look q (line_node l)) (position l))) (look (condition l))
states (requires c) s text look q = refl
states (ensures c) s text look q = refl
states (signals d c) s text look q = ap (λ (x : Scope). one_node (in_contract Signalling x) (look c)) (running_same s (look d)).scope

shape_of : (l : Line) (text : List ℕ) (look : ℕ → Tree) (q : Place) → IsContractLine (tree_of text look q (line_node l)) → IsExpression (look (condition l))
shape_of (requires c) text look q h = h
shape_of (ensures c) text look q h = h
shape_of (signals d c) text look q h = h.1

-- a line by its node
pub line_shown : (p : Program) (file line : ℕ) (a : Arena) (e : Entry) (n : AstNode) → a ≡ arena_at p file → tree_in a line ≡ tree_of a.text (tree_in a) e.place e.node → e.node ≡ n
    → node_tree p file line ≡ tree_of (arena_at p file).text (tree_in (arena_at p file)) e.place n
line_shown p file line a e n same tree node =
    sym (ap (λ (b : Arena). tree_in b line) same) ∙ (tree ∙ (ap (tree_of a.text (tree_in a) e.place) node ∙ ap (λ (b : Arena). tree_of b.text (tree_in b) e.place n) same))

-- its condition
pub condition_stands : (p : Program) (l : Line) (file line : ℕ) (a : Arena) (e : Entry) → IsProgram p → IsLine p file line → a ≡ arena_at p file
    → tree_in a line ≡ tree_of a.text (tree_in a) e.place e.node → ArePartsFrom a.entries line 0 (parts e.node) → e.node ≡ line_node l → IsCondition p (side_of l) file line (condition l)
condition_stands p l file line a e is here same tree stands node =
    let arena = arena_at p file in
    let s = node_scope p file line in
    let at = line_shown p file line a e (line_node l) same tree node in
    let part = part_there l arena.entries line (subst (λ (n : AstNode). ArePartsFrom arena.entries line 0 (parts n)) node (subst (λ (b : Arena). ArePartsFrom b.entries line 0 (parts e.node)) same stands)) in
    let scope = part_scope p file line (position l) (condition l) is here.there.file here.there.node part ∙ ap (λ t. handed s t (position l)) at in
    record {
      there = record { file = here.there.file; node = let below = part.below in let l = here.there.node in omega arith };
      stated_is = ap (stated (side_of l) (running s)) at ∙ (states l s arena.text (tree_in arena) e.place ∙ ap (λ (x : Scope). one_node (running x) (node_tree p file (condition l))) (sym scope));
      shape = shape_of l arena.text (tree_in arena) e.place (subst IsContractLine at here.shape);
    }

-- a line of another kind has none of that side
pub unstated : (side : Side) (s : Scope) (text : List ℕ) (look : ℕ → Tree) (q : Place) (n : AstNode) → ((c : ℕ) → n ≡ nodes.Requires c → ⊥) → ((c : ℕ) → n ≡ nodes.Ensures c → ⊥) → ((d c : ℕ) → n ≡ nodes.Signals d c → ⊥)
    → stated side s (tree_of text look q n) ≡ []
unstated side s text look q (nodes.Requires c) r e x = absurd (r c refl)
unstated side s text look q (nodes.Ensures c) r e x = absurd (e c refl)
unstated side s text look q (nodes.Signals d c) r e x = absurd (x d c refl)
unstated sides.Required s text look q _ r e x = refl
unstated sides.Ensured s text look q _ r e x = refl

pub condition_entered : (p : Program) (side : Side) (file line c : ℕ) → IsCondition p side file line c → Enter p (line_code side (running (node_scope p file line)) (node_tree p file line)) (record { file = file; node = c } ∷ [])
condition_entered p side file line c h =
    let n : NodeId = record { file = file; node = c } in
    one_entered p n (line_code side (running (node_scope p file line)) (node_tree p file line))
    (record { there = h.there; seen = expression (node_scope p file c) (node_tree p file c) h.shape })
    (sym (append-nil (code_at p n)) ∙ sym (ap (flat_map (λ (m : Node). code m.scope m.tree)) h.stated_is))

-- ---- lists of lines

still_line : (s : Scope) (t : Tree) → IsContractLine t → after s t ≡ s
still_line s (trees.Requires q e) h = refl
still_line s (trees.Ensures q e) h = refl
still_line s (trees.Signals q d e) h = refl
still_line s _ h = absurd h

pub still_lines : (s : Scope) (t : Tree) → AreContractLines t → AreStill s (items t)
still_lines s trees.Nil h = tt
still_lines s (trees.Cons a b) h = (still_line s a h.0, still_lines s b h.1)
still_lines s _ h = absurd h

shapes : (t : Tree) → AreContractLines t → All IsContractLine (items t)
shapes trees.Nil h = All-nil IsContractLine
shapes (trees.Cons a b) h = All-cons IsContractLine a (items b) h.0 (shapes b h.1)
shapes _ h = absurd h

lines_are : (p : Program) (file : ℕ) (s : Scope) (ns : List ℕ) → All (IsIn p file s) ns → All IsContractLine (map (node_tree p file) ns) → All (IsLine p file) ns
lines_are p file s [] a b = All-nil (IsLine p file)
lines_are p file s (n ∷ ns) a b =
    All-cons (IsLine p file) n ns (record { there = (All-head (IsIn p file s) n ns a).there; shape = All-head IsContractLine (node_tree p file n) (map (node_tree p file) ns) b })
    (lines_are p file s ns (All-tail (IsIn p file s) n ns a) (All-tail IsContractLine (node_tree p file n) (map (node_tree p file) ns) b))

pub lines_stand : (p : Program) (file : ℕ) (s : Scope) (ns : List ℕ) (t : Tree) → All (IsIn p file s) ns → map (node_tree p file) ns ≡ items t → AreContractLines t → All (IsLine p file) ns
lines_stand p file s ns t a e h = lines_are p file s ns a (subst (λ (ts : List Tree). All IsContractLine ts) (sym e) (shapes t h))
