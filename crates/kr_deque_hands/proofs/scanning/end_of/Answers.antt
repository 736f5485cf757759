use Rattle.kr_deque_hands.proofs.Halved.{ends_at_end}
use Rattle.kr_deque_hands.proofs.scanning.end_of.Goals as goal

pub returns-in-End : goal.returns-in-End
returns-in-End c = ends_at_end c.args.whole c.args.spent c.args.reach c.requires c.in-End.is
