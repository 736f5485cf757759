use Rattle.std.proofs.Common.{◌≡◌, drop}
use Rattle.kr_shard.specs.Merging.{spent_in}
use Rattle.kr_shard.proofs.merging.spent_in.Given as goal

abbrev pub invariant-loop-given : goal.invariant-loop-given
invariant-loop-given l = spent_in l.ordered ≡ spent_in (drop l.given-index l.ordered)
