use Rattle.std.proofs.Common.{arith}
use Rattle.kr_trace.proofs.Searches.{between_is}
use Rattle.kr_trace.proofs.rows.Rows.count_between.Goals as goal

pub returns : goal.returns
returns c =
    let between = between_is c.args.mark.now c.args.reach.now c.args.self.now.keys c.count_up_to-before.result c.count_up_to-upto.result c.count_up_to-before.ensures c.count_up_to-upto.ensures in
    omega (arith, c.saturating_sub.ensures, between)
