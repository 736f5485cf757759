use Rattle.std.proofs.Common.{ap, sym, List, length, arith}
use Rattle.std.proofs.lemmas.List.Folds.{length-flat_map-take}
use Rattle.kr_ast.specs.Arena.{Arena}
use Rattle.kr_types.specs.Programs.{all_entries}
use Rattle.kr_types.proofs.program.Program.nodes.Goals as goal

pub overflow_add-count : goal.overflow_add-count
overflow_add-count c =
    let all = c.deref-tree-items.result.now in
    let fits = length-flat_map-take (λ (a : Arena). a.entries) all c.loop-tree.tree-index c.tree-item.result c.loop-tree-test.true in
    let item = ap (λ (a : Arena). length a.entries) (sym c.tree-item.is) in
    let total = ap (λ (files : List Arena). length (all_entries files)) c.deref-tree-items.ensures.value in
    omega (arith, fits, item, total, c.requires.small, c.loop-tree.invariant, c.nodes-count.ensures.count)
