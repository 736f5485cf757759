use Rattle.std.proofs.Common.{◌-◌}
use Rattle.kr_trace.proofs.Searches.{IsBetween}
use Rattle.kr_trace.proofs.rows.Rows.count_up_to.Given as goal

abbrev pub invariant-loop-low : goal.invariant-loop-low
invariant-loop-low l = IsBetween l.bound l.self.keys l.low l.high

abbrev pub decreases-loop-low : goal.decreases-loop-low
decreases-loop-low l = l.high - l.low
