use Rattle.std.proofs.Common.{length}
use Rattle.kr_trace.proofs.Sections.{HasRows}
use Rattle.kr_trace.proofs.parts.parts_of.Given as goal

abbrev pub invariant-loop-line : goal.invariant-loop-line
invariant-loop-line l = HasRows l.text l.rest l.rows

abbrev pub decreases-loop-line : goal.decreases-loop-line
decreases-loop-line l = length l.rest
