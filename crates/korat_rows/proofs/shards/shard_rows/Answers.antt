use Rattle.korat_rows.proofs.WorkedShards.{worked}
use Rattle.korat_rows.proofs.shards.shard_rows.Goals as goal

pub returns : goal.returns
returns c = worked
