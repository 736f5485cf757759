use Rattle.std.proofs.Common.{◌≡◌, ◌≤◌, length, take}
use Rattle.kr_report_streaming.specs.Lines.{failing_lines}
use Rattle.kr_report_streaming.proofs.writer.count_failing.Given as goal

abbrev pub invariant-loop-row : goal.invariant-loop-row
invariant-loop-row l = record {
  failing : l.count ≡ length (failing_lines (take l.row-index l.rows));
  few : l.count ≤ l.row-index;
}
