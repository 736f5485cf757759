use Rattle.kr_shard_laws.proofs.Accepted.{shards}
use Rattle.kr_shard_laws.proofs.problems.accepted_shards_law.Goals as goal

pub returns : goal.returns
returns c = shards
