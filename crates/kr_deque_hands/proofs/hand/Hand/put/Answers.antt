use Rattle.kr_deque_hands.proofs.Carrying.{works_pushed}
use Rattle.kr_deque_hands.proofs.hand.Hand.put.Goals as goal

pub returns-clause-works : goal.returns-clause-works
returns-clause-works g c = λ all. works_pushed all c.args.self.now c.push.new.self c.args.span c.push.ensures.stays c.push.ensures.rest c.in-Ok.ensures.pushed.0 c.push.ensures.stolen
