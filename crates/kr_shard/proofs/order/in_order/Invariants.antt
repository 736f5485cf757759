use Rattle.std.proofs.Common.{◌≡◌, vec_len}
use Rattle.kr_shard.specs.Merging.{in_order, numbered}
use Rattle.kr_shard.proofs.Orders.{onto}
use Rattle.kr_shard.proofs.order.in_order.Given as goal

-- the earlier ones are still to be put in their places
abbrev pub invariant-loop-shard : goal.invariant-loop-shard
invariant-loop-shard l = onto (numbered 0 l.shards.items) l.ordered.items ≡ in_order (numbered 0 l.fn.shards.items)

abbrev pub decreases-loop-shard : goal.decreases-loop-shard
decreases-loop-shard l = vec_len l.shards
