use Rattle.kr_shard_laws.proofs.EntryTexts.{entries_listed}
use Rattle.kr_shard_laws.proofs.entries.entries_law.Goals as goal

pub returns : goal.returns
returns c = entries_listed
