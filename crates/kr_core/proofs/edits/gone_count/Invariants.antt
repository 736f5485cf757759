use Rattle.std.proofs.Common.{◌≡◌, ◌+◌, ◌-◌, drop, length}
use Rattle.kr_core.specs.Steps.{gone}
use Rattle.kr_core.proofs.edits.gone_count.Given as goal

abbrev pub invariant-loop-count : goal.invariant-loop-count
invariant-loop-count l = length (gone l.segments) ≡ l.count + length (gone (drop l.count l.segments))

abbrev pub decreases-loop-count : goal.decreases-loop-count
decreases-loop-count l = l.most - l.count
