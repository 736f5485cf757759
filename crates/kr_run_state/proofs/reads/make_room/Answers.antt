use Rattle.kr_run_state.proofs.Rows.{widened}
use Rattle.kr_run_state.proofs.reads.make_room.Goals as goal

pub returns-clause-there : goal.returns-clause-there
returns-clause-there c = widened c.add_rows.new.rows.items c.args.object c.args.column c.widen.new.row c.widen.result c.in_ok-add_rows.ensures.long c.widen.ensures.long
