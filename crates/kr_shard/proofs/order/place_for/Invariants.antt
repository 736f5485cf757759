use Rattle.std.proofs.Common.{◌≡◌, ℕ, ◌<◌, get_or, true}
use Rattle.kr_base.specs.Cuts.{is_before}
use Rattle.kr_shard.specs.Merging.{from_of}
use Rattle.kr_shard.specs.declared.order.Given.{Given}
use Rattle.kr_shard.proofs.order.place_for.Given as goal

abbrev pub invariant-loop-at : goal.invariant-loop-at
invariant-loop-at l = (k : ℕ) (d : Given) → k < l.at → is_before (from_of (get_or l.ordered k d)) l.from ≡ true
