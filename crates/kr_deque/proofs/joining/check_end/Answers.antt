use Rattle.std.proofs.Common.{sym, ◌∙◌}
use Rattle.kr_base.proofs.Bounds.{connected}
use Rattle.kr_deque.proofs.Following.{cut_end}
use Rattle.kr_deque.proofs.joining.check_end.Goals as goal

pub cut_of-requires : goal.cut_of-requires
cut_of-requires c = cut_end c.args.at.now c.args.asked.now.upto (sym c.is_below.ensures ∙ c.if-is_below.true)

pub returns : goal.returns
returns c = connected c.args.at.now c.args.asked.now.upto (sym c.is_below.ensures ∙ c.if-is_below.false) c.requires
