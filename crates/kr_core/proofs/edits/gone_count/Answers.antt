use Rattle.std.proofs.Common.{◌≤◌, ◌+◌, length, arith}
use Rattle.kr_core.specs.Steps.{gone}
use Rattle.kr_core.proofs.Fronts.{count_all}
use Rattle.kr_core.proofs.edits.gone_count.Goals as goal

pub returns-after-loop-count : goal.returns-after-loop-count
returns-after-loop-count c =
    let ss = c.args.segments.now in
    let short : length ss ≤ c.loop-count.count + 1 = omega (arith, c.saturating_sub-most.ensures) in
    count_all c.loop-count.count (length (gone ss)) ss short c.loop-count.invariant
