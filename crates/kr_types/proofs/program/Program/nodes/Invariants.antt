use Rattle.std.proofs.Common.{◌≡◌, length, take}
use Rattle.kr_types.specs.Programs.{all_entries}
use Rattle.kr_types.proofs.program.Program.nodes.Given as goal

abbrev pub invariant-loop-tree : goal.invariant-loop-tree
invariant-loop-tree l = l.count ≡ length (all_entries (take l.tree-index l.tree-items))
