use Rattle.kr_shard_laws.proofs.Back.{back_law}
use Rattle.kr_shard_laws.proofs.reading.back_law.Goals as goal

pub returns : goal.returns
returns c = back_law
