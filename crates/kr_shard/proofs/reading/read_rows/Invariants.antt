use Rattle.std.proofs.Common.{length}
use Rattle.kr_shard.specs.Stages.{IsAt}
use Rattle.kr_shard.proofs.reading.read_rows.Given as goal

abbrev pub invariant-loop-line : goal.invariant-loop-line
invariant-loop-line l = IsAt l.span l.text l.rest l.count l.last

abbrev pub decreases-loop-line : goal.decreases-loop-line
decreases-loop-line l = length l.rest
