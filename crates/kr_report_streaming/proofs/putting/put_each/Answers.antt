use Rattle.std.proofs.Common.{◌+◌, drop, refl}
use Rattle.kr_base.specs.Writing.{stopped_then, stopped_early, writes_exit}
use Rattle.kr_report.specs.Reports.{lines}
use Rattle.kr_report_streaming.specs.Lines.{texts}
use Rattle.kr_report_streaming.proofs.Lists.{lines_from}
use Rattle.kr_report_streaming.proofs.putting.put_each.Goals as goal

pub returns-in_err-put_all : goal.returns-in_err-put_all
returns-in_err-put_all g c =
    let i = c.loop-row.row-index in
    let rows = c.args.rows.now in
    writes_exit c.from_residual.result c.from_residual.ensures.0
    (stopped_early (lines (texts (drop (i + 1) rows))) (stopped_then c.loop-row.invariant c.in_err-put_all.ensures refl) (lines_from rows i c.row-item.result c.as_slice.result.now c.loop-row-test.true c.row-item.is c.as_slice.ensures))
