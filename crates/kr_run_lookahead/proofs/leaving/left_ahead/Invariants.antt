use Rattle.std.proofs.Common.{◌-◌, drop, length}
use Rattle.kr_run_lookahead.specs.declared.leaving.Point.TheVariants as points
use Rattle.kr_run_lookahead.proofs.Lefts.{LeadsBack}
use Rattle.kr_run_lookahead.proofs.leaving.left_ahead.Given as goal

-- a value known from here is known from the frames at first
abbrev pub invariant-frames : goal.invariant-frames
invariant-frames l = LeadsBack l.fn.code (drop l.fn.depth l.fn.stack) (drop l.at l.fn.stack) (record { point = points.Gives l.fn.given; fuel = l.fn.fuel }) l.stand

abbrev pub decreases-frames : goal.decreases-frames
decreases-frames l = length l.fn.stack - l.at
