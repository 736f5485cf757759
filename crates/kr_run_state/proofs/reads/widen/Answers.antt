use Rattle.std.proofs.Common.{◌+◌, arith}
use Rattle.kr_run_state.proofs.Rows.{kept_longer}
use Rattle.kr_run_state.proofs.reads.widen.Goals as goal

pub returns-clause-kept : goal.returns-clause-kept
returns-clause-kept c = kept_longer c.args.row.now.items c.resize.new.self.items _ (c.args.column + 1) (omega arith) c.in_ok-resize.ensures.items
