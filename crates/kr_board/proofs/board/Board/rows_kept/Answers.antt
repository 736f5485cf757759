use Rattle.std.proofs.Common.{◌≡◌, ◌∙◌, List, sym, ap, length}
use Rattle.std.specs.List.{sum_by}
use Rattle.kr_survey.specs.Joins.{joined, lists}
use Rattle.kr_core.specs.declared.segment.Segment.{Segment}
use Rattle.kr_base.specs.Causes.{capped}
use Rattle.kr_board.specs.Held.{Held}
use Rattle.kr_board.proofs.Draining.{total-count}
use Rattle.kr_board.proofs.board.Board.rows_kept.Goals as goal

pub returns-clause-rows : goal.returns-clause-rows
returns-clause-rows g c =
    c.counted_rows.ensures ∙ (ap (λ (ss : List Segment). capped (sum_by (λ s. s.rows) ss)) c.segments.ensures
    ∙ (ap (λ (o : Held g.row.R.Denot). capped (sum_by (λ s. s.rows) o.core.segments)) (sym c.self.view_is)
    ∙ (total-count c.self.inside.core (lists c.self.inside.kept.items) c.self.inside.log c.self.invariant.0 ∙ ap (λ (o : Held g.row.R.Denot). length (joined o.kept)) c.self.view_is)))
