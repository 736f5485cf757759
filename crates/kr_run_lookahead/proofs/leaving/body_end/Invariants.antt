use Rattle.std.proofs.Common.{ℕ, ◌-◌, drop, length}
use Rattle.kr_value.specs.declared.value.Value.{Value}
use Rattle.kr_code.specs.declared.code.Code.{Code}
use Rattle.kr_run_lookahead.specs.declared.leaving.Point.TheVariants as points
use Rattle.kr_run_lookahead.proofs.Lefts.{LeadsBack}
use Rattle.kr_run_lookahead.proofs.leaving.body_end.Given as goal

-- a body's value comes here from the frames at first
abbrev pub invariant-frames : goal.invariant-frames
invariant-frames l = (code : Code) (u : Value) (n : ℕ) → LeadsBack code (drop l.fn.depth l.fn.stack) (drop l.at l.fn.stack) (record { point = points.Gives u; fuel = n }) (record { point = points.Gives u; fuel = n })

abbrev pub decreases-frames : goal.decreases-frames
decreases-frames l = length l.fn.stack - l.at
