use Rattle.std.proofs.Common.{◌≡◌, ℕ, true, sym, subst}
use Rattle.kr_base.specs.declared.span.Bound.{Bound}
use Rattle.kr_core.specs.States.{segment_of}
use Rattle.kr_core.specs.Steps.{may_report}
use Rattle.kr_board.proofs.Reports.{report_fits}
use Rattle.kr_board.proofs.board.Board.write_in.Goals as goal

pub add-requires-clause-fits : goal.add-requires-clause-fits
add-requires-clause-fits g c =
    let l = c.args.lease in
    let p = c.args.part in
    let o = segment_of l.segment c.args.self.now.core.segments in
    subst (λ (b : Bound). may_report l.seat b c.len-count.result p.tried p.spent o ≡ true) (sym c.requires.copies.0)
    (subst (λ (n : ℕ). may_report l.seat p.reach n p.tried p.spent o ≡ true) (sym c.len-count.ensures) (report_fits c.args.self.now.core l p c.requires.fits c.requires.possible))
