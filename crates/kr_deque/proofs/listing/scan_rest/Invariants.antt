use Rattle.std.proofs.Common.{◌≡◌, ◌∷◌, [], true}
use Rattle.kr_survey.specs.Spans.{is_ahead}
use Rattle.kr_deque.proofs.Listed.{GoesOn}
use Rattle.kr_deque.proofs.listing.scan_rest.Given as goal

abbrev pub invariant-loop : goal.invariant-loop
invariant-loop g l =
    (goal.iterator-loop g).can_next l.iterator' × (goal.iterator-loop g).is_finite l.iterator' × g.S.Survey.made l.survey l.scratch × (is_ahead l.span ≡ true)
    × GoesOn (g.S.Survey.all l.survey) l.fn.pieces.items (l.fn.span ∷ []) l.pieces.items (l.span ∷ [])
