use Rattle.std.proofs.Common.{◌∙◌, ap, length, sym, true≢false, arith, ◌+◌}
use Rattle.crossbeam_deque.specs.Handles.{worker_port, worker_view}
use Rattle.kr_deque_hands.specs.declared.rule.View.{View}
use Rattle.kr_deque_hands.proofs.Turns.{marked}
use Rattle.kr_deque_hands.proofs.hand.Hand.mark.Goals as goal

pub push_as-requires-clause-pushes : goal.push_as-requires-clause-pushes
push_as-requires-clause-pushes g c =
    let h = c.args.self.now in
    marked (worker_port h.deque) (worker_view h.deque) (c.from.result + c.from-2.result) h.owner (let a = h.count in let b = h.marked in let d = c.from.ensures in let e = c.from-2.ensures in omega (arith, a, b, d, e))

pub invariant_of-self : goal.invariant_of-self
invariant_of-self g c =
    let h = c.args.self.now in
    let same = c.in-Ok.ensures.same in
    let rule = c.in-Ok.ensures.rule in
    let below = c.if-self-ge-MARKS.false in
    record {
      fifo = same.1 ∙ h.fifo;
      owner = ap (λ (v : View). v.log.owner) rule.0 ∙ h.owner;
      thief = h.thief;
      alone = λ e. ap (λ (v : View). v.log.thief) rule.0 ∙ h.alone e;
      count = ap (λ (v : View). length v.log.pushed) rule.0 ∙ h.count;
      most = h.most;
      marked = let a = ap (λ (v : View). v.marks.pushed) rule.0 in let b = h.marked in omega (arith, a, b);
      most_marks = omega (arith, below);
      closed = λ e. absurd (true≢false (sym e));
      spare = h.spare;
      none = h.none;
      room = let a = h.room in let b = rule.1 in let d = same.3 in omega (arith, a, b, d);
    }
