use Rattle.std.proofs.Common.{◌∙◌, sym}
use Rattle.kr_core.specs.States.{segment_of}
use Rattle.kr_board.proofs.Reports.{moved_there, overrun_there, fits_there}
use Rattle.kr_board.proofs.board.reporting.misfit.Goals as goal

pub returns-then-not-is_same : goal.returns-then-not-is_same
returns-then-not-is_same g0 c =
    let g = c.in-Some.segment.now in
    let o = segment_of c.args.lease.now.segment c.args.core.now.segments in
    moved_there o g c.in-At.mark c.in_ok-try_clone.field-0 c.args.lease.now c.args.reach.now c.in-Some.ensures.some (sym c.is_owned_by.ensures ∙ c.if-not-is_owned_by.false) c.in-At.is (λ e. cc (sym c.if-not-is_same.true ∙ c.is_same.ensures.1 e)) c.in_ok-try_clone.ensures

pub returns-then-is_below : goal.returns-then-is_below
returns-then-is_below g0 c =
    let g = c.in-Some.segment.now in
    let o = segment_of c.args.lease.now.segment c.args.core.now.segments in
    overrun_there o g c.in-At.mark c.args.lease.now c.in_ok-lowered.field-0 c.args.reach.now c.in-Some.ensures.some (sym c.is_owned_by.ensures ∙ c.if-not-is_owned_by.false) c.in-At.is (c.is_same.ensures.0 c.if-not-is_same.false) (sym c.is_below.ensures ∙ c.if-is_below.true) c.in_ok-lowered.ensures

pub returns : goal.returns
returns g0 c =
    let g = c.in-Some.segment.now in
    let o = segment_of c.args.lease.now.segment c.args.core.now.segments in
    fits_there o g c.in-At.mark c.args.lease.now c.args.reach.now c.in-Some.ensures.some (sym c.is_owned_by.ensures ∙ c.if-not-is_owned_by.false) c.in-At.is (c.is_same.ensures.0 c.if-not-is_same.false) (sym c.is_below.ensures ∙ c.if-is_below.false)
