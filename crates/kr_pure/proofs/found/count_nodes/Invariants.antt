use Rattle.std.proofs.Common.{◌≡◌, All, take, length}
use Rattle.kr_ast.specs.Arena.{IsArena}
use Rattle.kr_types.specs.Programs.{all_entries}
use Rattle.kr_pure.proofs.found.count_nodes.Given as goal

abbrev pub invariant-loop-tree : goal.invariant-loop-tree
invariant-loop-tree l = record {
  count : l.count ≡ length (all_entries (take l.tree-index l.trees));
  arenas : All (λ a. IsArena a.text a.entries) (take l.tree-index l.trees);
}
