-- The meaning of the numbers of a node's parts.
use Rattle.std.proofs.Common.{◌≡◌, ap, ◌∙◌, ℕ, ◌+◌, ◌^◌, ◌<◌, length, arith}
use Rattle.kr_ast.specs.Tree.{Tree}
use Rattle.kr_ast.specs.Arena as arenas
use Rattle.kr_ast.specs.Arena.{tree_in, tree_of}
use Rattle.kr_ast.specs.declared.node.Entry.{Entry}
use Rattle.kr_ast.specs.declared.node.Node.{Node}
use Rattle.kr_types_meaning.specs.Scopes.{Scope}
use Rattle.kr_types_meaning.specs.Handing.{handed}
use Rattle.kr_types_meaning.specs.Running.{running}
use Rattle.kr_types.specs.declared.program.Program.{Program}
use Rattle.kr_types.specs.Programs.{IsProgram}
use Rattle.kr_mean.specs.Code as meaning
use Rattle.kr_code.specs.Resolved.{IsPart}
use Rattle.kr_code_lowering.specs.declared.site.Site.{Site}
use Rattle.kr_code_lowering.specs.Origins.{Final, node_scope, node_tree, number_of, numbering_of}
use Rattle.kr_code_lowering.specs.Sites.{IsSite, IsHere, arena_at, scope_at, tree_at, number_at}
use Rattle.kr_code_members.proofs.Scopes as members
use Rattle.kr_code_lowering.proofs.Numbers.{origin_there}

-- a part has the scope that the node hands to it
pub part_scope : (p : Program) → IsProgram p → (s : Site) → IsSite p s → (j c : ℕ) → arenas.IsPart (arena_at p s).entries s.node j c → node_scope p s.file c ≡ handed (scope_at p s) (tree_at p s) j
part_scope p is s at j c part = members.part_scope p is s.file s.node j c (record { file = at.file; node = at.node }) part

-- the number of a part
pub part_number : (p : Program) (final : Final) (s : Site) → IsSite p s → (c : ℕ) → c < length (arena_at p s).entries → IsPart (numbering_of p final) (running (node_scope p s.file c)) (node_tree p s.file c) (number_at p s c)
part_number p final s at c h =
    ap (λ (k : ℕ). (numbering_of p final).origin (number_of p (k + c))) at.first ∙ origin_there p final.nodes s.file c at.file h

pub tree_is : (p : Program) (s : Site) (e : Entry) (n : Node) → IsHere p s e → e.node ≡ n → tree_at p s ≡ tree_of (arena_at p s).text (tree_in (arena_at p s)) e.place n
tree_is p s e n at is = at.tree ∙ ap (tree_of (arena_at p s).text (tree_in (arena_at p s)) e.place) is

-- a part that runs in a scope
pub part_in : (p : Program) → IsProgram p → (final : Final) (s : Site) (e : Entry) (n : Node) → IsHere p s e → e.node ≡ n → (j c : ℕ) → arenas.IsPart (arena_at p s).entries s.node j c
    → (r : Scope) → running (handed (scope_at p s) (tree_of (arena_at p s).text (tree_in (arena_at p s)) e.place n) j) ≡ r → IsPart (numbering_of p final) r (node_tree p s.file c) (number_at p s c)
part_in p is final s e n at it j c part r runs =
    let k : c < length (arena_at p s).entries = omega (arith, part.below, at.site.node) in
    let r' : running (node_scope p s.file c) ≡ r = ap running (part_scope p is s at.site j c part ∙ ap (λ (t : Tree). handed (scope_at p s) t j) (tree_is p s e n at it)) ∙ runs in
    part_number p final s at.site c k ∙ ap (λ (x : Scope). let made : meaning.Node = record { scope = x; tree = node_tree p s.file c } in made) r'
