use Rattle.std.proofs.Common.{take}
use Rattle.kr_base.specs.Told.{Added}
use Rattle.kr_report.specs.Reports.{lines}
use Rattle.kr_report_streaming.specs.Lines.{texts}
use Rattle.kr_report_streaming.proofs.putting.put_each.Given as goal

abbrev pub invariant-loop-row : goal.invariant-loop-row
invariant-loop-row g l = Added g.K.Sink.taken g.K.Sink.faults l.fn.out l.out (lines (texts (take l.row-index l.rows)))
