use Rattle.kr_shard.proofs.Joined.{one_merge}
use Rattle.kr_shard.proofs.laws.one_merge.Goals as goal

pub returns : goal.returns
returns c = one_merge
