use Rattle.kr_pool_tests.proofs.Two.{two_made}
use Rattle.kr_pool_tests.proofs.tests.taking.two_hands.Goals as goal

pub returns-clause-count : goal.returns-clause-count
returns-clause-count g c = two_made c.start.result c.in_ok-spans.spans.items c.in_ok-spans.ensures.count c.start.ensures.given
