use Rattle.kr_deque_hands.proofs.Carrying.{works_stolen}
use Rattle.kr_deque_hands.proofs.working.steal_next.Goals as goal

pub returns-in-Some-clause-works : goal.returns-in-Some-clause-works
returns-in-Some-clause-works g c = λ all. works_stolen all c.args.hand.now c.steal.new.self c.in-Some.span c.steal.ensures.stays c.steal.ensures.rest c.steal.ensures.own c.in-Some.ensures.stolen.0
