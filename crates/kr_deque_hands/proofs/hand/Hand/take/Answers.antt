use Rattle.std.proofs.Common.{◌∙◌, ap, length, List, arith}
use Rattle.crossbeam_deque.specs.Handles.{worker_view}
use Rattle.kr_base.specs.declared.span.Span.{Span}
use Rattle.kr_deque_hands.proofs.Draining.{kept_by_pop}
use Rattle.kr_deque_hands.proofs.hand.Hand.take.Goals as goal

pub invariant_of-self : goal.invariant_of-self
invariant_of-self g c =
    let h = c.args.self.now in
    let same = c.pop_as.ensures.same in
    let kept = kept_by_pop c.pop_as.result (worker_view h.deque) (worker_view c.pop_as.new.self) _ c.pop_as.ensures.rule in
    record {
      fifo = same.0.1 ∙ h.fifo;
      owner = kept.0 ∙ h.owner;
      thief = h.thief;
      alone = λ e. kept.1 ∙ h.alone e;
      count = ap (λ (l : List Span). length l) kept.2 ∙ h.count;
      most = h.most;
      marked = kept.3 ∙ h.marked;
      most_marks = h.most_marks;
      closed = λ e. kept.4 (h.closed e);
      spare = h.spare;
      none = h.none;
      room = let a = h.room in let b = same.1 in let d = same.0.3 in omega (arith, a, b, d);
    }
