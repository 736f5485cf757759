use Rattle.std.proofs.Common.{◌≡◌, ◌∙◌, Some, None, [], Option, ap, sym}
use Rattle.kr_core.specs.declared.event.Reply.TheVariants.{Noted}
use Rattle.kr_board.specs.Held.{Held}
use Rattle.kr_board.specs.Reporting.{misfit}
use Rattle.kr_board.specs.declared.board.reporting.Reported.{Reported}
use Rattle.kr_board.proofs.Reports.{is_refusal, look_event, look_stays}
use Rattle.kr_board.proofs.board.Board.report.Goals as goal

pub returns-in-Ok-clause-refusal : goal.returns-in-Ok-clause-refusal
returns-in-Ok-clause-refusal g c =
    let now = c.args.self.now in
    let r = c.in-Ok-Some.reported in
    let h : misfit now.core c.args.lease c.args.part.reach ≡ Some r = ap (λ (o : Held g.row.R.Denot). misfit {R = g.row.R.Denot} o.core c.args.lease c.args.part.reach) (sym c.self.view_is) ∙ (sym c.in-Ok-Some.ensures ∙ c.in-Ok-Some.field-0-is) in
    is_refusal now c.args.lease c.args.part r h

pub returns-in-Ok-clause-event : goal.returns-in-Ok-clause-event
returns-in-Ok-clause-event g c =
    let now = c.args.self.now in
    let r = c.in-Ok-Some.reported in
    let h : misfit now.core c.args.lease c.args.part.reach ≡ Some r = ap (λ (o : Held g.row.R.Denot). misfit {R = g.row.R.Denot} o.core c.args.lease c.args.part.reach) (sym c.self.view_is) ∙ (sym c.in-Ok-Some.ensures ∙ c.in-Ok-Some.field-0-is) in
    look_event now c.args.lease c.args.part r c.look.new.self h c.in-Ok.ensures.added

pub returns-in-Ok-clause-stays : goal.returns-in-Ok-clause-stays
returns-in-Ok-clause-stays g c = look_stays c.args.self.now c.args.lease c.args.part c.args.lease.seat Noted [] c.look.new.self c.in-Ok.ensures.added
