use Rattle.std.proofs.Common.{◌≡◌, take}
use Rattle.std.specs.List.{sum_by}
use Rattle.kr_base.specs.Causes.{capped}
use Rattle.kr_shard.specs.Merging.{tried_in}
use Rattle.kr_shard.proofs.merging.tried_by.Given as goal

abbrev pub invariant-loop-given : goal.invariant-loop-given
invariant-loop-given l = l.tried ≡ capped (sum_by tried_in (take l.given-index l.ordered))
