use Rattle.kr_text.specs.Splitting.{lines_in}
use Rattle.kr_trace.proofs.Folds.{IsReading}
use Rattle.kr_trace.proofs.reading.read_rows.Given as goal

abbrev pub invariant-loop-at : goal.invariant-loop-at
invariant-loop-at l = IsReading l.tests l.end (lines_in l.text) l.count l.fn.after l.reading.rows l.reading.before l.rest l.at
