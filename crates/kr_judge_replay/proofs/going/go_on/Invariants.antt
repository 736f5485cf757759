use Rattle.std.specs.List.{All}
use Rattle.kr_judge_replay.specs.Kept.{GoesOn, Kept}
use Rattle.kr_judge_replay.proofs.going.go_on.Given as goal

-- the rest of the run is the run, and checkpoints are kept
abbrev pub invariant-conditions : goal.invariant-conditions
invariant-conditions l = GoesOn l.input.layout.now l.input.predicate.now l.input.vector.now l.at l.stack l.next l.world × All (Kept l.input.layout.now l.input.predicate.now l.input.vector.now) l.checks

abbrev pub decreases-conditions : goal.decreases-conditions
decreases-conditions l = l.left
