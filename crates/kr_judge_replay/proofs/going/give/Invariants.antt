use Rattle.std.specs.List.{All}
use Rattle.kr_judge_replay.specs.Kept.{GoesOn, Kept}
use Rattle.kr_judge_replay.proofs.going.give.Given as goal

-- the rest of the run is the run, and checkpoints are kept
abbrev pub invariant-steps : goal.invariant-steps
invariant-steps l = GoesOn l.input.layout.now l.input.predicate.now l.input.vector.now l.condition l.stack l.next l.world × All (Kept l.input.layout.now l.input.predicate.now l.input.vector.now) l.checks

abbrev pub decreases-steps : goal.decreases-steps
decreases-steps l = l.left
