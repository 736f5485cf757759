use Rattle.std.proofs.Common.{[], ◌∷◌}
use Rattle.kr_deque_hands.specs.Turns.{listed}
use Rattle.kr_deque_hands.proofs.Carrying.{works_then, works_same, works_popped}
use Rattle.kr_deque_hands.proofs.working.obtain.Goals as goal

pub returns-in-Some-clause-works : goal.returns-in-Some-clause-works
returns-in-Some-clause-works g c = λ all. works_popped all c.args.hand.now c.pop.new.self c.in-Some.span c.pop.ensures.stays c.pop.ensures.rest c.in-Some.ensures.popped.0 c.pop.ensures.stolen

pub returns-in-Some-seek-clause-works : goal.returns-in-Some-seek-clause-works
returns-in-Some-seek-clause-works g c = λ all.
    works_then all c.args.hand.now c.pop.new.self c.seek.new.hand [] [] (c.in-Some-seek.span ∷ [])
    (works_same all c.args.hand.now c.pop.new.self [] c.pop.ensures.stays c.pop.ensures.rest c.in-None.ensures.popped.0 c.pop.ensures.stolen) (c.in-Some-seek.ensures.works all)

pub returns-in-None-seek-clause-works : goal.returns-in-None-seek-clause-works
returns-in-None-seek-clause-works g c = λ all.
    works_then all c.args.hand.now c.seek.new.hand c.shut.new.hand [] [] (listed c.shut.result)
    (works_then all c.args.hand.now c.pop.new.self c.seek.new.hand [] [] []
    (works_same all c.args.hand.now c.pop.new.self [] c.pop.ensures.stays c.pop.ensures.rest c.in-None.ensures.popped.0 c.pop.ensures.stolen) (c.in-None-seek.ensures.works all)) (c.shut.ensures.works all)
