use Rattle.std.proofs.Common.{◌≡◌, drop}
use Rattle.kr_trace.specs.Checked.{are_below}
use Rattle.kr_trace.proofs.rows.Rows.are_below.Given as goal

abbrev pub invariant-loop-at : goal.invariant-loop-at
invariant-loop-at l = are_below l.key l.self.keys ≡ are_below l.key (drop l.at l.self.keys)
