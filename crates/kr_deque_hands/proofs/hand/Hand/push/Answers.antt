use Rattle.std.proofs.Common.{true≢false, sym, ◌∙◌, ◌∷◌, [], ap, length, length-append, arith}
use Rattle.crossbeam_deque.specs.Handles.{worker_port, worker_view}
use Rattle.kr_deque_hands.specs.declared.rule.View.{View}
use Rattle.kr_deque_hands.proofs.Turns.{pushes}
use Rattle.kr_deque_hands.proofs.hand.Hand.push.Goals as goal

pub push_as-requires-clause-pushes : goal.push_as-requires-clause-pushes
push_as-requires-clause-pushes g c = pushes (worker_port c.args.self.now.deque) (worker_view c.args.self.now.deque) c.args.span c.args.self.now.owner c.requires

pub invariant_of-self : goal.invariant_of-self
invariant_of-self g c =
    let h = c.args.self.now in
    let same = c.in-Ok.ensures.same in
    let rule = c.in-Ok.ensures.rule in
    let below = c.if-self-ge-PUSHES.false in
    record {
      fifo = same.1 ∙ h.fifo;
      owner = ap (λ (v : View). v.log.owner) rule.0 ∙ h.owner;
      thief = h.thief;
      alone = λ e. ap (λ (v : View). v.log.thief) rule.0 ∙ h.alone e;
      count = let a = ap (λ (v : View). length v.log.pushed) rule.0 in let b = length-append (worker_view h.deque).log.pushed (c.args.span ∷ []) in let d = h.count in omega (arith, a, b, d);
      most = omega (arith, below);
      marked = ap (λ (v : View). v.marks.pushed) rule.0 ∙ h.marked;
      most_marks = h.most_marks;
      closed = λ e. absurd (true≢false (sym e));
      spare = h.spare;
      none = h.none;
      room = let a = h.room in let b = rule.1 in let d = same.3 in omega (arith, a, b, d);
    }
