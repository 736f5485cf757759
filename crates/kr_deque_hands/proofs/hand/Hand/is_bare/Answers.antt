use Rattle.std.proofs.Common.{◌∙◌, ap, length, List, arith}
use Rattle.crossbeam_deque.specs.Handles.{worker_view}
use Rattle.kr_deque_hands.specs.declared.rule.View.{View}
use Rattle.kr_deque_hands.proofs.hand.Hand.is_bare.Goals as goal

pub invariant_of-self : goal.invariant_of-self
invariant_of-self g c =
    let h = c.args.self.now in
    let same = c.len_as.ensures.same in
    let e = same.2 in
    record {
      fifo = same.0.1 ∙ h.fifo;
      owner = ap (λ (v : View). v.log.owner) e ∙ h.owner;
      thief = h.thief;
      alone = λ n. ap (λ (v : View). v.log.thief) e ∙ h.alone n;
      count = ap (λ (v : View). length v.log.pushed) e ∙ h.count;
      most = h.most;
      marked = ap (λ (v : View). v.marks.pushed) e ∙ h.marked;
      most_marks = h.most_marks;
      closed = λ s. ap (λ (v : View). v.marks.shut) e ∙ h.closed s;
      spare = h.spare;
      none = h.none;
      room = let a = h.room in let b = same.1 in let d = same.0.3 in omega (arith, a, b, d);
    }
