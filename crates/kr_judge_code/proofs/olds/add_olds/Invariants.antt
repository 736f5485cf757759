use Rattle.std.specs.Prelude.{reverse}
use Rattle.kr_judge_code.proofs.Walked.{IsOnWay, weight}
use Rattle.kr_judge_code.proofs.olds.add_olds.Given as goal

abbrev pub invariant-loop-node : goal.invariant-loop-node
invariant-loop-node l = IsOnWay l.is_named l.program l.fn.expression l.fn.olds.items l.olds.items l.waiting.items

abbrev pub decreases-loop-node : goal.decreases-loop-node
decreases-loop-node l = weight l.program l.fn.expression.file (reverse l.waiting.items)
