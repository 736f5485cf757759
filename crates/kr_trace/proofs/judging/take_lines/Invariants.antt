use Rattle.std.proofs.Common.{length}
use Rattle.kr_text.specs.Splitting.{is_empty, lines_in, unended}
use Rattle.kr_trace.specs.Checked.{events_from}
use Rattle.kr_trace.proofs.Logs.{IsTaking}
use Rattle.kr_trace.proofs.judging.take_lines.Given as goal

abbrev pub invariant-loop-line : goal.invariant-loop-line
invariant-loop-line l = IsTaking l.listing (events_from l.listing.workers l.listing.last l.listing.rows.keys l.fn.core l.first (lines_in l.text) (is_empty (unended l.text))) l.core l.first l.text l.rest l.count

abbrev pub decreases-loop-line : goal.decreases-loop-line
decreases-loop-line l = length l.rest
