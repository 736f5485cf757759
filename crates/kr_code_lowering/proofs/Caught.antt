-- Catches.
use Rattle.std.proofs.Common.{◌≡◌, refl, sym, ◌∙◌, ℕ, subst, Some}
use Rattle.kr_ast.specs.Tree as trees
use Rattle.kr_ast.specs.Tree.{Tree}
use Rattle.kr_ast.specs.declared.node.Entry.{Entry}
use Rattle.kr_ast.specs.declared.node.Node.{Node}
use Rattle.kr_ast.specs.declared.node.Node.TheVariants as nodes
use Rattle.kr_types_meaning.specs.Scopes.{Scope, after, caught_type}
use Rattle.kr_types_meaning.specs.Running.{running}
use Rattle.kr_laws_types.proofs.Loops.{running_same}
use Rattle.kr_classes_names.specs.Types.{IsTypeNumber}
use Rattle.kr_types.specs.declared.program.Program.{Program}
use Rattle.kr_types.specs.Programs.{IsProgram}
use Rattle.kr_code.specs.Resolved.{IsCatch}
use Rattle.kr_code.specs.declared.statement.Catch.{Catch}
use Rattle.kr_code_lowering.specs.declared.site.Site.{Site}
use Rattle.kr_code_lowering.specs.Origins.{node_tree, numbering_of}
use Rattle.kr_code_lowering.specs.Sites.{IsHere, number_at, scope_at}
use Rattle.kr_code_lowering.specs.Statements.{Catches}
use Rattle.kr_code_lowering.proofs.Parts.{part_in, tree_is}
use Rattle.kr_code_lowering.proofs.Naming.{parts_are}

-- where code runs, the same type is named
pub caught_running : (s : Scope) (d : Tree) → caught_type s d ≡ caught_type (running s) d
caught_running s (trees.Parameter p t n) = refl
caught_running s _ = refl

pub catches_so : (p : Program) → IsProgram p → (s : Site) (e : Entry) → IsHere p s e → (d b : ℕ) → e.node ≡ nodes.Catch d b → (k : ℕ) → IsTypeNumber p.table.types k (caught_type (scope_at p s) (node_tree p s.file d)) → Catches p s (record { caught = k; body = number_at p s b })
catches_so p program s e at d b is k number final =
    let n : Node = nodes.Catch d b in
    let ps = parts_are p s e n at is in
    let declared : Tree = node_tree p s.file d in
    let inner : Scope = after (running (scope_at p s)) declared in
    let same : running (after (scope_at p s) declared) ≡ inner = sym (running_same (scope_at p s) declared).scope in
    let x : Catch = record { caught = k; body = number_at p s b } in
    subst (λ (t : Tree). IsCatch (numbering_of p final) (running (scope_at p s)) t (Some x)) (sym (tree_is p s e n at is))
    (number.type_is ∙ caught_running (scope_at p s) declared, part_in p program final s e n at is 1 b ps.1.0 inner same)
