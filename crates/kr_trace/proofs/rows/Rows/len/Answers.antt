use Rattle.std.proofs.Common.{arith}
use Rattle.kr_trace.proofs.Keys.{rows_count}
use Rattle.kr_trace.proofs.rows.Rows.len.Goals as goal

pub returns : goal.returns
returns c =
    let own = c.self.inside in
    omega (arith, c.len.ensures, own.ends.ok.0, rows_count own.numbers.items own.ends.items own.failing c.args.self.now c.self.view_is)
