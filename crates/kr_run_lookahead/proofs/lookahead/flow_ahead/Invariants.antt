use Rattle.std.proofs.Common.{◌≡◌, ◌-◌, drop, length}
use Rattle.kr_code.specs.Doing.{Doing, IsMeaning}
use Rattle.kr_run_lookahead.specs.Ahead.{IsSpent, flows}
use Rattle.kr_run_lookahead.proofs.lookahead.flow_ahead.Given as goal

-- the outcome is that of the flow at first, where that came
abbrev pub invariant-frames : goal.invariant-frames
invariant-frames l = ((d : Doing) → IsMeaning l.fn.code d → flows l.fn.code d (drop l.fn.depth l.fn.stack) l.fn.world l.fn.flow ≡ flows l.fn.code d (drop l.at l.fn.stack) l.world l.next) × IsSpent l.fn.world l.world

abbrev pub decreases-frames : goal.decreases-frames
decreases-frames l = length l.fn.stack - l.at
