use Rattle.std.proofs.Common.{[], ◌∷◌, ◌∙◌}
use Rattle.kr_deque_hands.proofs.Carrying.{works_then}
use Rattle.kr_deque_hands.proofs.working.seek.Goals as goal

pub returns-in-Some-steal_next-clause-works : goal.returns-in-Some-steal_next-clause-works
returns-in-Some-steal_next-clause-works g c = λ all.
    works_then all c.args.hand.now c.loop.hand c.steal_next.new.hand [] [] (c.in-Some-steal_next.span ∷ []) (c.loop.invariant.4 all) (c.in-Some-steal_next.ensures.works all)

pub returns-then-looks-gt-LOOKS_AGAIN-clause-works : goal.returns-then-looks-gt-LOOKS_AGAIN-clause-works
returns-then-looks-gt-LOOKS_AGAIN-clause-works g c = λ all.
    works_then all c.args.hand.now c.loop.hand c.steal_next.new.hand [] [] [] (c.loop.invariant.4 all) (c.in-None-steal_next.ensures.works all)

pub loop-preserved : goal.loop-preserved
loop-preserved g c = (
  tt,
  tt,
  c.steal_next.ensures.refused ∙ c.loop.invariant.2,
  (c.in-None-steal_next.ensures.works []).stays c.args.work.now c.loop.invariant.3,
  λ all. works_then all c.args.hand.now c.loop.hand c.steal_next.new.hand [] [] [] (c.loop.invariant.4 all) (c.in-None-steal_next.ensures.works all),
)
