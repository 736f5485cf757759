use Rattle.std.proofs.Common.{[], ◌∷◌}
use Rattle.kr_deque_hands.proofs.Carrying.{works_then}
use Rattle.kr_deque_hands.proofs.working.work_on.Goals as goal

pub returns-in-None-obtain-clause-works : goal.returns-in-None-obtain-clause-works
returns-in-None-obtain-clause-works g c =
    let all = g.S.Survey.all c.args.survey.now in
    works_then all c.args.hand.now c.loop.hand c.obtain.new.hand [] [] [] c.loop.invariant.5 (c.in-None-obtain.ensures.works all)

pub returns-then-not-scan_all-clause-works : goal.returns-then-not-scan_all-clause-works
returns-then-not-scan_all-clause-works g c =
    let all = g.S.Survey.all c.args.survey.now in
    let span = c.in-Some-obtain.span in
    works_then all c.args.hand.now c.obtain.new.hand c.scan_all.new.hand [] (span ∷ []) []
    (works_then all c.args.hand.now c.loop.hand c.obtain.new.hand [] [] (span ∷ []) c.loop.invariant.5 (c.in-Some-obtain.ensures.works all)) c.scan_all.ensures.works

pub loop-preserved : goal.loop-preserved
loop-preserved g c =
    let all = g.S.Survey.all c.args.survey.now in
    let span = c.in-Some-obtain.span in
    let s = c.loop.invariant in
    let took = c.in-Some-obtain.ensures.works all in
    let scanned = c.scan_all.ensures.works in (
      tt,
      tt,
      c.scan_all.ensures.made,
      c.scan_all.ensures.unmarked c.if-not-scan_all.false,
      scanned.stays c.args.work.now (took.stays c.args.work.now s.4),
      works_then all c.args.hand.now c.obtain.new.hand c.scan_all.new.hand [] (span ∷ []) []
          (works_then all c.args.hand.now c.loop.hand c.obtain.new.hand [] [] (span ∷ []) s.5 took) scanned,
    )
