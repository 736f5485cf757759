use Rattle.std.proofs.Common.{◌≡◌, drop}
use Rattle.kr_shard.specs.Merging.{fault_after, first_fault}
use Rattle.kr_shard.proofs.merging.first_fault.Given as goal

abbrev pub invariant-loop-next : goal.invariant-loop-next
invariant-loop-next l = first_fault l.ordered ≡ fault_after l.last (drop l.next-index l.later)
