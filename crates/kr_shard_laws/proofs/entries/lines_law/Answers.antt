use Rattle.kr_shard_laws.proofs.EntryTexts.{entries_lined}
use Rattle.kr_shard_laws.proofs.entries.lines_law.Goals as goal

pub returns : goal.returns
returns c = entries_lined
