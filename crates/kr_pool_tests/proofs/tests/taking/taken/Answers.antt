use Rattle.kr_pool_tests.proofs.Two.{first_hand, last_hand}
use Rattle.kr_pool_tests.proofs.tests.taking.taken.Goals as goal

pub takes_and_pushes-requires-clause-owner : goal.takes_and_pushes-requires-clause-owner
takes_and_pushes-requires-clause-owner g c =
    first_hand c.in_ok-work.work c.in_ok-work.hands.items c.pop.new.self.items c.pop-in-Some.new.self.items c.in-Some.thief c.in-Some-pop.owner c.in_ok-work.ensures.hands c.in-Some.ensures.items c.in-Some-pop.ensures.items

pub takes_and_pushes-requires-clause-thief : goal.takes_and_pushes-requires-clause-thief
takes_and_pushes-requires-clause-thief g c = last_hand c.in_ok-work.work c.in_ok-work.hands.items c.pop.new.self.items c.in-Some.thief c.in_ok-work.ensures.hands c.in-Some.ensures.items
