use Rattle.std.proofs.Common.{◌≡◌, ap, ◌∙◌, List}
use Rattle.kr_ast.specs.Arena.{Arena}
use Rattle.kr_ast.specs.Files.{file_at}
use Rattle.kr_code_lowering.proofs.Naming.{local_found}
use Rattle.kr_code_lowering.proofs.declarators.local_at.Goals as goal

pub local-requires-clause-scopes : goal.local-requires-clause-scopes
local-requires-clause-scopes c =
    let p = c.args.program.now in
    let t = c.typed.result.now in
    let tree : c.tree_of-tree.result.now ≡ file_at p.trees.items c.args.site.file = c.tree_of-tree.ensures ∙ ap (λ (ts : List Arena). file_at ts c.args.site.file) c.deref.ensures.value in
    rw tree (c.requires.program.files c.args.site.file t c.typed.ensures).scopes

pub returns-clause-found : goal.returns-clause-found
returns-clause-found c =
    let p = c.args.program.now in
    let t = c.typed.result.now in
    let tree : c.tree_of-tree.result.now ≡ file_at p.trees.items c.args.site.file = c.tree_of-tree.ensures ∙ ap (λ (ts : List Arena). file_at ts c.args.site.file) c.deref.ensures.value in
    local_found p c.args.site.file c.args.site.node t c.args.name.now c.typed.ensures c.local.result (rw tree at c.local.ensures.found)
