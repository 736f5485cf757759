use Rattle.std.proofs.Common.{◌≡◌, ◌-◌, drop, length}
use Rattle.kr_code.specs.Doing.{Doing, IsMeaning}
use Rattle.kr_run_lookahead.specs.Ahead.{IsSpent, comes}
use Rattle.kr_run_lookahead.proofs.lookahead.value_ahead.Given as goal

-- the outcome is that of the value at first, where that came
abbrev pub invariant-frames : goal.invariant-frames
invariant-frames l = ((d : Doing) → IsMeaning l.fn.code d → comes l.fn.code d l.fn.stack l.fn.world l.fn.given ≡ comes l.fn.code d (drop l.at l.fn.stack) l.world l.value) × IsSpent l.fn.world l.world

abbrev pub decreases-frames : goal.decreases-frames
decreases-frames l = length l.fn.stack - l.at
