use Rattle.std.proofs.Common.{◌≡◌, take}
use Rattle.std.specs.List.{sum_by}
use Rattle.kr_base.specs.Causes.{capped}
use Rattle.kr_shard.specs.Found.{count_in}
use Rattle.kr_shard.proofs.writing.count_rows.Given as goal

abbrev pub invariant-loop-at : goal.invariant-loop-at
invariant-loop-at l = l.count ≡ capped (sum_by count_in (take l.at l.rows))
