use Rattle.std.proofs.Common.{◌≡◌, List, ◌++◌}
use Rattle.std.specs.Slice.Iter.{chunks_rest}
use Rattle.kr_base.specs.Told.{Added}
use Rattle.kr_report.specs.Reports.{lines}
use Rattle.kr_report_streaming.specs.Lines.{texts}
use Rattle.kr_report_streaming.specs.declared.row_line.RowLine.{RowLine}
use Rattle.kr_report_streaming.proofs.putting.put_rows.Given as goal

abbrev pub invariant-loop-run : goal.invariant-loop-run
invariant-loop-run g l = record {
  next : (goal.iterator-loop-run g).can_next l.run-iterator;
  finite : (goal.iterator-loop-run g).is_finite l.run-iterator;
  front : List RowLine;
  parts : l.rows ≡ front ++ chunks_rest l.run-iterator;
  put : Added g.K.Sink.taken g.K.Sink.faults l.fn.out l.out (lines (texts front));
}
