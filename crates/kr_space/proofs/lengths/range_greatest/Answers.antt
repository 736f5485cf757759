use Rattle.std.proofs.Common.{sym, arith}
use Rattle.kr_space.proofs.LengthLists.{range_greatest}
use Rattle.kr_space.proofs.lengths.range_greatest.Goals as goal

pub returns-then-from-to : goal.returns-then-from-to
returns-then-from-to c = λ setting. sym (range_greatest setting c.args.from c.args.to (omega (arith, c.if-from-to.true)))
