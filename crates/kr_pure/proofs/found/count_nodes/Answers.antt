use Rattle.std.proofs.Common.{ap, ◌∙◌, subst, ◌+◌, ◌<◌, length, arith}
use Rattle.std.proofs.lemmas.List.{get_or_default}
use Rattle.std.proofs.lemmas.List.Elements.{All-more}
use Rattle.kr_ast.specs.Arena.{Arena, IsArena}
use Rattle.kr_ast.specs.Files.{no_file}
use Rattle.kr_pure.proofs.Numbers.{one_more, upto_all}
use Rattle.kr_pure.proofs.found.count_nodes.Goals as goal

pub overflow_add-count : goal.overflow_add-count
overflow_add-count c =
    let files = c.args.trees.now in
    let l : c.loop-tree.tree-index < length files = omega arith in
    let here = ap (λ (a : Arena). length a.entries) (c.tree-item.is ∙ get_or_default files c.loop-tree.tree-index c.tree-item.result no_file l) in
    omega (arith, one_more files c.loop-tree.tree-index l, upto_all files (c.loop-tree.tree-index + 1), here)

pub loop-tree-preserved : goal.loop-tree-preserved
loop-tree-preserved c =
    let files = c.args.trees.now in
    let l : c.loop-tree.tree-index < length files = omega arith in
    let here = ap (λ (a : Arena). length a.entries) (c.tree-item.is ∙ get_or_default files c.loop-tree.tree-index c.tree-item.result no_file l) in
    record {
      count = omega (arith, one_more files c.loop-tree.tree-index l, here);
      arenas = All-more (λ (a : Arena). IsArena a.text a.entries) files c.loop-tree.tree-index c.tree-item.result l c.loop-tree.invariant.arenas (subst (λ (a : Arena). IsArena a.text a.entries) c.tree-item.is c.nodes.ensures.arena);
    }
