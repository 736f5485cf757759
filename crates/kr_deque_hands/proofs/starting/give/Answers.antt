use Rattle.std.proofs.Common.{ap}
use Rattle.crossbeam_deque.specs.Handles.{worker_port, worker_view}
use Rattle.kr_deque_hands.specs.declared.rule.Marks.{Marks}
use Rattle.kr_deque_hands.proofs.Turns.{gives}
use Rattle.kr_deque_hands.proofs.starting.give.Goals as goal

pub push_as-requires-clause-pushes : goal.push_as-requires-clause-pushes
push_as-requires-clause-pushes c =
    gives (worker_port c.args.deque.now) (worker_view c.args.deque.now) c.args.span c.requires.owner c.requires.none (ap (λ (m : Marks). m.pushed) c.requires.marks) c.requires.ahead
