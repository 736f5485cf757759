use Rattle.std.proofs.Common.{arith, length}
use Rattle.kr_trace.proofs.Keys.{bounds_at}
use Rattle.kr_trace.proofs.rows.piece.Goals as goal

pub slice_of-requires : goal.slice_of-requires
slice_of-requires c =
    let within = bounds_at 0 c.args.ends.now (length c.args.numbers.now) c.args.at c.requires.tiles c.requires.at in
    record { order = omega (arith, within.0, c.begin.ensures); within = omega (arith, within.1) }
