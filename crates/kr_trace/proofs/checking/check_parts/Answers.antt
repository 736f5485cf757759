use Rattle.std.proofs.Common.{arith, length, take}
use Rattle.std.proofs.lemmas.List.{length-take}
use Rattle.kr_text.specs.Splitting.{lines_in}
use Rattle.kr_trace.proofs.Folds.{rows_ascend, rows_length}
use Rattle.kr_trace.proofs.checking.check_parts.Goals as goal

pub check_after-requires-clause-ascend : goal.check_after-requires-clause-ascend
check_after-requires-clause-ascend c =
    rows_ascend c.is_test.result c.end.result.now c.args.span.now.after 1 (take c.args.parts.rows (lines_in c.args.text.now)) c.in-Ok.rows c.in-Ok.ensures

pub check_after-requires-clause-small : goal.check_after-requires-clause-small
check_after-requires-clause-small c =
    let rows = rows_length c.is_test.result c.end.result.now c.args.span.now.after 1 (take c.args.parts.rows (lines_in c.args.text.now)) c.in-Ok.rows c.in-Ok.ensures in
    omega (arith, rows, length-take c.args.parts.rows (lines_in c.args.text.now), c.requires.parts.few, c.requires.small)
