use Rattle.std.proofs.Common.{[], ◌∷◌, ◌∙◌, ap}
use Rattle.kr_deque_hands.specs.declared.rule.View.{View}
use Rattle.kr_deque_hands.specs.declared.task.Task.TheVariants.{Whole, Mark}
use Rattle.kr_deque_hands.proofs.Carrying.{works_then, works_same, works_alike, works_marked, works_taken}
use Rattle.kr_deque_hands.proofs.working.shut.Goals as goal

pub returns-in-Some-Whole-clause-works : goal.returns-in-Some-Whole-clause-works
returns-in-Some-Whole-clause-works g c = λ all.
    works_then all c.args.hand.now c.mark.new.self c.take.new.self [] [] (c.in-Some-Whole.span ∷ [])
    (works_marked all c.args.hand.now c.loop.hand c.mark.new.self (c.loop.invariant.3 all) c.mark.ensures.stays c.mark.ensures.rest c.mark.ensures.own c.mark.ensures.stolen)
    (works_taken all c.mark.new.self c.take.new.self c.in-Some-Whole.field-0 (Whole c.in-Some-Whole.span) c.in-Some-Whole.field-0-is c.take.ensures.stays c.take.ensures.rest c.take.ensures.stolen c.in-Some-Whole.ensures.popped)

pub returns-then-taken-number-clause-works : goal.returns-then-taken-number-clause-works
returns-then-taken-number-clause-works g c = λ all.
    works_then all c.args.hand.now c.take.new.self c.close.new.self [] [] []
    (works_then all c.args.hand.now c.mark.new.self c.take.new.self [] [] []
    (works_marked all c.args.hand.now c.loop.hand c.mark.new.self (c.loop.invariant.3 all) c.mark.ensures.stays c.mark.ensures.rest c.mark.ensures.own c.mark.ensures.stolen)
    (works_taken all c.mark.new.self c.take.new.self c.in-Some-Mark.field-0 (Mark c.in-Some-Mark.taken) c.in-Some-Mark.field-0-is c.take.ensures.stays c.take.ensures.rest c.take.ensures.stolen c.in-Some-Mark.ensures.popped))
    (works_alike all c.take.new.self c.close.new.self [] c.close.ensures.rest.number c.close.ensures.deque c.close.ensures.next c.close.ensures.rest.pieces c.close.ensures.rest.left)

pub loop-preserved-else-taken-number : goal.loop-preserved-else-taken-number
loop-preserved-else-taken-number g c = (
  tt,
  tt,
  c.take.ensures.rest.refused ∙ (c.mark.ensures.rest.refused ∙ c.loop.invariant.2),
  λ all.
      works_then all c.args.hand.now c.mark.new.self c.take.new.self [] [] []
      (works_marked all c.args.hand.now c.loop.hand c.mark.new.self (c.loop.invariant.3 all) c.mark.ensures.stays c.mark.ensures.rest c.mark.ensures.own c.mark.ensures.stolen)
      (works_taken all c.mark.new.self c.take.new.self c.in-Some-Mark.field-0 (Mark c.in-Some-Mark.taken) c.in-Some-Mark.field-0-is c.take.ensures.stays c.take.ensures.rest c.take.ensures.stolen c.in-Some-Mark.ensures.popped),
)

pub loop-preserved : goal.loop-preserved
loop-preserved g c = (
  tt,
  tt,
  c.take.ensures.rest.refused ∙ (c.mark.ensures.rest.refused ∙ c.loop.invariant.2),
  λ all.
      works_then all c.args.hand.now c.mark.new.self c.take.new.self [] [] []
      (works_marked all c.args.hand.now c.loop.hand c.mark.new.self (c.loop.invariant.3 all) c.mark.ensures.stays c.mark.ensures.rest c.mark.ensures.own c.mark.ensures.stolen)
      (works_same all c.mark.new.self c.take.new.self [] c.take.ensures.stays c.take.ensures.rest (ap (λ (v : View). v.log) c.in-None-take.ensures.popped.0) c.take.ensures.stolen),
)

pub loop-preserved-in-None-mark : goal.loop-preserved-in-None-mark
loop-preserved-in-None-mark g c = (
  tt,
  tt,
  c.mark.ensures.rest.refused ∙ c.loop.invariant.2,
  λ all. (works_marked all c.args.hand.now c.loop.hand c.mark.new.self (c.loop.invariant.3 all) c.mark.ensures.stays c.mark.ensures.rest c.mark.ensures.own c.mark.ensures.stolen),
)
