use Rattle.std.proofs.Common.{refl, sym, subst}
use Rattle.crossbeam_deque.specs.Handles.{worker_view}
use Rattle.kr_deque_hands.specs.Hands.{stolen_in}
use Rattle.kr_deque_hands.specs.Building.{Owner}
use Rattle.kr_deque_hands.specs.Gathering.{Drains, TakesIn}
use Rattle.kr_deque_hands.proofs.Draining.{when_none}
use Rattle.kr_deque_hands.proofs.Rings.{opens, goes_on, closes_next, closes_as, closes_end, collected_end, none_left}
use Rattle.kr_deque_hands.proofs.gathering.Gathered.collect.Goals as goal

pub loop-hand-init : goal.loop-hand-init
loop-hand-init g c = opens c.args.hands.items c.pop.new.self.items c.in-Some.last c.args.self.now c.take_in.new.self c.in-Ok.both.0 c.in-Ok.both.1 c.in-Some.ensures.items c.in-Ok.ensures

pub close-requires-clause-thief : goal.close-requires-clause-thief
close-requires-clause-thief g c =
    closes_as c.in-Ok-take_in.both.1 c.in-Some-pop.hand.next c.replace-open.result c.loop-hand.deque c.in-Ok-take_in.ensures.next_is c.replace-open.ensures.value
    (closes_next c.args.work.now c.args.hands.items c.loop-hand.hands.items c.pop-in-loop-hand.new.self.items c.in-Some-pop.hand c.args.self.now c.loop-hand.self c.loop-hand.deque _ c.requires c.loop-hand.invariant c.in-Some-pop.ensures.items)

pub loop-hand-preserved : goal.loop-hand-preserved
loop-hand-preserved g c =
    let next = c.in-Ok-take_in.both.1 in
    let took = c.take_in-in-Some-pop.new.self in
    goes_on c.args.work.now c.args.hands.items c.loop-hand.hands.items c.pop-in-loop-hand.new.self.items c.in-Some-pop.hand c.args.self.now c.loop-hand.self took _ c.loop-hand.deque c.replace-open.new.dest _ next c.requires c.loop-hand.invariant c.in-Some-pop.ensures.items
    (subst (λ (w : Owner). TakesIn c.in-Some-pop.hand c.loop-hand.self took w next) (sym c.replace-open.ensures.after) c.in-Ok-take_in.ensures) refl
    (subst (λ (w : Owner). Drains (worker_view w) (stolen_in next (worker_view w).log) took.left.items c.close.new.left.items) c.replace-open.ensures.value c.in-Ok-close.ensures)

pub close-requires-2-clause-thief : goal.close-requires-2-clause-thief
close-requires-2-clause-thief g c =
    closes_end c.args.work.now c.args.hands.items c.loop-hand.hands.items c.args.self.now c.loop-hand.self c.loop-hand.deque _ c.requires c.loop-hand.invariant
    (none_left c.loop-hand.hands (when_none c.pop-in-loop-hand.result _ (λ x e. c.in_default-pop.not-Some x e) c.pop-in-loop-hand.ensures.cases).0)

pub returns-in-Ok-close-2 : goal.returns-in-Ok-close-2
returns-in-Ok-close-2 g c =
    collected_end c.args.work.now c.args.hands.items c.loop-hand.hands.items c.args.self.now c.loop-hand.self _ c.loop-hand.deque _ c.requires c.loop-hand.invariant
    (none_left c.loop-hand.hands (when_none c.pop-in-loop-hand.result _ (λ x e. c.in_default-pop.not-Some x e) c.pop-in-loop-hand.ensures.cases).0) refl c.in-Ok-close-2.ensures
