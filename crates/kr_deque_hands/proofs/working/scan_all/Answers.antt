use Rattle.std.proofs.Common.{Option, [], ◌∷◌, subst}
use Rattle.kr_base.specs.declared.span.Span.{Span}
use Rattle.kr_deque_hands.specs.Pieces.{AllAhead}
use Rattle.kr_deque_hands.specs.Turns.{listed}
use Rattle.kr_deque_hands.specs.Hands.{Works}
use Rattle.kr_deque_hands.proofs.Carrying.{works_then}
use Rattle.kr_deque_hands.proofs.working.scan_all.Goals as goal

pub loop-preserved : goal.loop-preserved
loop-preserved g c =
    let all = g.S.Survey.all c.args.survey.now in
    let unmarked = c.in-Ok-Some.ensures.unmarked in
    let ahead = subst (λ (o : Option Span). AllAhead (listed o)) c.in-Ok-Some.field-0-is unmarked.1 in
    let works = subst (λ (o : Option Span). Works all c.loop.hand (c.loop.span ∷ []) c.scan_on.new.hand (listed o)) c.in-Ok-Some.field-0-is c.in-Ok-Some.ensures.works in (
      tt,
      tt,
      c.scan_on.ensures.made,
      unmarked.0,
      ahead.0,
      works_then all c.args.hand.now c.loop.hand c.scan_on.new.hand (c.args.span ∷ []) (c.loop.span ∷ []) (c.in-Ok-Some.rest ∷ []) c.loop.invariant.5 works,
    )

pub returns-in-Ok-None-clause-works : goal.returns-in-Ok-None-clause-works
returns-in-Ok-None-clause-works g c =
    let all = g.S.Survey.all c.args.survey.now in
    let works = subst (λ (o : Option Span). Works all c.loop.hand (c.loop.span ∷ []) c.scan_on.new.hand (listed o)) c.in-Ok-None.field-0-is c.in-Ok-None.ensures.works in
    works_then all c.args.hand.now c.loop.hand c.scan_on.new.hand (c.args.span ∷ []) (c.loop.span ∷ []) [] c.loop.invariant.5 works

pub returns-in-Err-clause-works : goal.returns-in-Err-clause-works
returns-in-Err-clause-works g c =
    works_then (g.S.Survey.all c.args.survey.now) c.args.hand.now c.loop.hand c.scan_on.new.hand (c.args.span ∷ []) (c.loop.span ∷ []) [] c.loop.invariant.5 c.in-Err.ensures.works
