use Rattle.kr_pool_tests.proofs.Two.{last_hand}
use Rattle.kr_pool_tests.proofs.tests.taking.worked.Goals as goal

pub work_deque-hand-requires-after_bounds : goal.work_deque-hand-requires-after_bounds
work_deque-hand-requires-after_bounds g c κs within = last_hand c.in_ok-work.work c.in_ok-work.hands.items c.pop.new.self.items c.in-Some.hand c.in_ok-work.ensures.hands c.in-Some.ensures.items
