use Rattle.kr_deque.proofs.Whole as whole
use Rattle.kr_deque.proofs.laws.joined_law.Goals as goal

pub returns : goal.returns
returns g c = whole.joined_law
