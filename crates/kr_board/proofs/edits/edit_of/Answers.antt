use Rattle.std.proofs.Common.{◌∙◌, ap, sym}
use Rattle.kr_board.specs.Edits.{edit_of}
use Rattle.kr_board.proofs.Lists.{behind_there, append_there}
use Rattle.kr_board.proofs.edits.edit_of.Goals as goal

pub returns-in-Some : goal.returns-in-Some
returns-in-Some c =
    let segs = c.args.core.now.segments in
    behind_there c.in-Steal.victim c.in-Some.i segs c.in-Some.ensures.some.0 c.in-Some.ensures.some.1 ∙ ap (edit_of segs) (sym c.in-Steal.is)

pub returns-in-Some-place : goal.returns-in-Some-place
returns-in-Some-place c =
    let segs = c.args.core.now.segments in
    append_there c.in-Report.segment c.in-Some-place.i c.in-Report.spent segs c.in-Some-place.ensures.some.0 c.in-Some-place.ensures.some.1 ∙ ap (edit_of segs) (sym c.in-Report.is)
