use Rattle.std.proofs.Common.{◌∙◌, sym, ap, subst, false}
use Rattle.crossbeam_deque.specs.Handles.{IsPassOf, worker_deque}
use Rattle.kr_deque_hands.specs.Building.{Owner, IsFilled}
use Rattle.kr_deque_hands.proofs.Made.{added, filled_half}
use Rattle.kr_deque_hands.proofs.starting.Building.add.Goals as goal

pub returns-in-Ok-link : goal.returns-in-Ok-link
returns-in-Ok-link g c = λ lists b.
    let made = c.in-Ok-link.ensures in
    let front = c.in-Ok.ensures in
    let deque = c.in_ok-deque.deque in
    let later = c.another-next.new.self in
    let next = c.another-next.result in
    let same = c.another-next.ensures.same in
    let given = c.args.spans.items in
    added lists c.args.self.now _ front.0 made.0 next given b (made.8 ∙ front.2) made.5 made.1 made.2 made.3 made.4 made.7
    (subst (λ (o : Owner). IsFilled false given o) (sym made.6) (filled_half given deque later c.in_ok-deque.ensures same.0.1 same.1 same.0.3 c.another-next.ensures.rule.0))
    (front.1 ∙ (sym same.0.0 ∙ ap (λ (o : Owner). worker_deque o) (sym made.6)))
    (subst (λ (o : Owner). IsPassOf (worker_deque o) next) (sym made.6) (subst (λ d. IsPassOf d next) (sym same.0.0) same.2))
