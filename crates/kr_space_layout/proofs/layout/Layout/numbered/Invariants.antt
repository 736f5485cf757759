use Rattle.std.proofs.Common.{◌≤◌}
use Rattle.kr_mean.specs.Problem.{objects_before}
use Rattle.kr_space_layout.proofs.layout.Layout.numbered.Given as goal

-- so many objects are before the class domain, and the number is not below that
abbrev pub invariant-loop-block : goal.invariant-loop-block
invariant-loop-block l = objects_before l.block-index l.self.domains ≤ l.number
