use Rattle.kr_shard_laws.proofs.SourceNames.{named}
use Rattle.kr_shard_laws.proofs.names.names_law.Goals as goal

pub returns : goal.returns
returns c = named
