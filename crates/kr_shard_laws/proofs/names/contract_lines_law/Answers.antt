use Rattle.kr_shard_laws.proofs.SourceNames.{lines_few}
use Rattle.kr_shard_laws.proofs.names.contract_lines_law.Goals as goal

pub returns : goal.returns
returns c = lines_few
