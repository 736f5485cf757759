use Rattle.std.proofs.Common.{◌+◌, ◌-◌, length}
use Rattle.kr_run_state.specs.Rows.{KeepNumbers}
use Rattle.kr_run_state.proofs.reads.add_rows.Given as goal

abbrev pub invariant-adding : goal.invariant-adding
invariant-adding l = KeepNumbers l.fn.rows.items l.rows.items

abbrev pub decreases-adding : goal.decreases-adding
decreases-adding l = l.object + 1 - length l.rows.items
