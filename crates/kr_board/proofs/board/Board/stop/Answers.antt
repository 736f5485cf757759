use Rattle.std.proofs.Common.{◌≡◌, ◌∙◌, ap}
use Rattle.kr_base.specs.declared.span.Bound.TheVariants.{At}
use Rattle.kr_board.specs.Held.{Held}
use Rattle.kr_board.specs.Closing.{mark_in}
use Rattle.kr_board.proofs.Draining.{stop_fits}
use Rattle.kr_board.proofs.Staying.{quiet_stays}
use Rattle.kr_board.proofs.board.Board.stop.Goals as goal

pub add-requires-clause-fits : goal.add-requires-clause-fits
add-requires-clause-fits g c =
    let segs = c.args.self.now.core.segments in
    let m = c.in_ok-mark.mark in
    let there : At m ≡ mark_in segs =
    ap At c.in_ok-mark.ensures ∙ (c.in_ok-answer.ensures ∙ (ap mark_in c.segments.ensures ∙ ap (λ (o : Held g.row.R.Denot). mark_in o.core.segments) c.self.view_is)) in
    stop_fits segs m there

pub returns-in-Ok-clause-stays : goal.returns-in-Ok-clause-stays
returns-in-Ok-clause-stays g c = quiet_stays c.args.self.now _ _ _ c.add-2.new.self tt c.in-Ok.ensures.added
