use Rattle.std.proofs.Common.{◌≡◌, ◌∷◌, [], true, None}
use Rattle.kr_survey.specs.Spans.{is_ahead}
use Rattle.kr_deque_hands.specs.Hands.{Works}
use Rattle.kr_deque_hands.proofs.working.scan_all.Given as goal

abbrev pub invariant-loop : goal.invariant-loop
invariant-loop g l =
    (goal.iterator-loop g).can_next l.iterator' × (goal.iterator-loop g).is_finite l.iterator' × g.S.Survey.made l.survey l.scratch × (l.hand.refused ≡ None) × (is_ahead l.span ≡ true)
    × Works (g.S.Survey.all l.survey) l.fn.hand (l.fn.span ∷ []) l.hand (l.span ∷ [])
