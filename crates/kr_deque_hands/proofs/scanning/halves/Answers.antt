use Rattle.kr_deque_hands.proofs.Halved.{halved}
use Rattle.kr_deque_hands.proofs.scanning.halves.Goals as goal

pub returns-in_ok-after-in-Some : goal.returns-in_ok-after-in-Some
returns-in_ok-after-in-Some c =
    halved c.inside_law.ensures c.args.span.now c.in_ok-whole.whole c.in_ok-inside.field-0 c.in-Some.cut c.in_ok-after-in-Some.after c.in_ok-whole.ensures c.in_ok-inside.ensures c.in-Some.is c.in_ok-after-in-Some.ensures
