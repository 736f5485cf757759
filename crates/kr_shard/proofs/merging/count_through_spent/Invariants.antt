use Rattle.std.proofs.Common.{◌≡◌, ℕ, ◌<◌, get_or, false, is_some}
use Rattle.kr_shard.specs.declared.order.Given.{Given}
use Rattle.kr_shard.proofs.merging.count_through_spent.Given as goal

abbrev pub invariant-loop-at : goal.invariant-loop-at
invariant-loop-at l = (k : ℕ) (d : Given) → k < l.at → is_some (get_or l.ordered k d).shard.spent ≡ false
