use Rattle.std.proofs.Common.{◌≤◌, length, take}
use Rattle.std.specs.Prelude.{All, Ok, map}
use Rattle.kr_ast.specs.Arena.{root}
use Rattle.korat_top_files.specs.Chains.{MOST_NODES, each, growing}
use Rattle.korat_top_files.specs.Found.{AreShaped}
use Rattle.korat_top_files.proofs.find.trees_of.Given as goal

abbrev pub invariant-loop-number : goal.invariant-loop-number
invariant-loop-number l = each growing 0 (take l.number l.texts) (Ok (map root l.trees.items)) × All (λ tree. length tree.entries ≤ MOST_NODES) l.trees.items × AreShaped l.trees.items
