use Rattle.std.proofs.Common.{◌≡◌, ◌∙◌, [], List, ap, length}
use Rattle.std.specs.Prelude.{replicate}
use Rattle.kr_survey.specs.Joins.{lists}
use Rattle.kr_core.specs.declared.segment.Segment.{Segment}
use Rattle.kr_board.specs.Held.{Held}
use Rattle.kr_board.proofs.Opened.{new_sound, new_kept, new_board, new_in_window}
use Rattle.kr_board.proofs.board.Board.open.Goals as goal

pub invariant_of-result : goal.invariant_of-result
invariant_of-result g c =
    let made : lists c.in_ok-kept.kept.items ≡ replicate (length c.in_ok-core.core.segments) [] = c.in_ok-kept.ensures ∙ ap (λ (ss : List Segment). replicate (length ss) []) c.segments.ensures in (
      new_sound c.args.span c.args.cuts.now c.in_ok-core.core (lists c.in_ok-kept.kept.items) c.new.result c.requires c.in_ok-core.ensures made c.new.ensures.len,
      new_in_window c.args.window (lists c.in_ok-kept.kept.items) (length c.in_ok-core.core.segments) made,
    )

pub returns-clause-kept : goal.returns-clause-kept
returns-clause-kept g c =
    let made : lists c.in_ok-kept.kept.items ≡ replicate (length c.in_ok-core.core.segments) [] = c.in_ok-kept.ensures ∙ ap (λ (ss : List Segment). replicate (length ss) []) c.segments.ensures in
    new_kept c.args.span c.args.cuts.now c.in_ok-core.core (lists c.in_ok-kept.kept.items) c.in_ok-core.ensures made

pub returns-clause-of_survey : goal.returns-clause-of_survey
returns-clause-of_survey g c =
    let made : lists c.in_ok-kept.kept.items ≡ replicate (length c.in_ok-core.core.segments) [] = c.in_ok-kept.ensures ∙ ap (λ (ss : List Segment). replicate (length ss) []) c.segments.ensures in
    let board : Held g.row.R.Denot = record { core = c.in_ok-core.core; kept = lists c.in_ok-kept.kept.items; log = c.new.result.items; window = c.args.window } in
    new_board (g.S.Survey.all c.args.survey.now) c.args.span c.args.cuts.now board c.in_ok-core.ensures (new_kept c.args.span c.args.cuts.now c.in_ok-core.core (lists c.in_ok-kept.kept.items) c.in_ok-core.ensures made) c.new.ensures.items
