use Rattle.kr_shard_laws.proofs.Law.{shard_law}
use Rattle.kr_shard_laws.proofs.joining.shard_law.Goals as goal

pub returns : goal.returns
returns c = shard_law
