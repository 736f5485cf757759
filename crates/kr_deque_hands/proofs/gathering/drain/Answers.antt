use Rattle.kr_deque_hands.specs.Logs.{spans_among}
use Rattle.kr_deque_hands.proofs.Draining.{draining_all, when_none}
use Rattle.kr_deque_hands.proofs.gathering.drain.Goals as goal

pub returns : goal.returns
returns c =
    draining_all c.args.deque c.loop-task.deque c.args.left.now.items c.loop-task.left.items (spans_among c.len_as.ensures.rule.0) c.loop-task.invariant
    (when_none c.pop_as.result _ (λ x e. c.in_default.not-Some x e) c.pop_as.ensures.rule).1 (c.len_as.ensures.rule.2 c.requires.both.0 c.requires.both.1)
