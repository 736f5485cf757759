use Rattle.kr_deque.proofs.Worked.{all_mine}
use Rattle.kr_deque.proofs.listing.work_all.Goals as goal

pub work_each-requires-after_bounds : goal.work_each-requires-after_bounds
work_each-requires-after_bounds g c κs within = all_mine c.args.work.now c.args.hands.now c.requires
