use Rattle.std.proofs.Common.{◌≡◌}
use Rattle.kr_code_lowering.specs.Origins.{first_node}
use Rattle.kr_code_lowering.proofs.site.Site.of.Given as goal

abbrev pub invariant-loop-before : goal.invariant-loop-before
invariant-loop-before l = l.first ≡ first_node l.program.trees.items l.before
