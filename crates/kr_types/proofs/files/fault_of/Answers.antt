use Rattle.std.proofs.Common.{ap, ◌+◌, ◌-◌, ◌≡◌, length, arith}
use Rattle.kr_ast.specs.Arena.{Arena}
use Rattle.kr_ast.specs.Files.{file_at}
use Rattle.kr_types.proofs.Faults.{root_least}
use Rattle.kr_types.proofs.files.fault_of.Goals as goal

pub returns : goal.returns
returns c =
    let files = c.args.trees.now in
    let f = c.args.file in
    let nodes = ap (λ (t : Arena). length t.entries) c.tree_of.ensures in
    let some = c.nodes-nodes.ensures.arena.some in
    let last : c.nodes-nodes.result - 1 + 1 ≡ length (file_at files f).entries = omega (arith, nodes, some, c.nodes-nodes.ensures.count) in
    root_least files c.args.types.now f c.args.typed.now (c.nodes-nodes.result - 1) c.at.result c.requires.typed last c.at.ensures
