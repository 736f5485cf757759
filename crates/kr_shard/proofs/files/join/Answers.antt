use Rattle.kr_shard.specs.declared.merging.MergeRefusal.TheVariants.{Overlap, Gap}
use Rattle.kr_shard.proofs.Joined.{joined_ok, joined_fault}
use Rattle.kr_shard.proofs.files.join.Goals as goal

pub returns-in-Ok : goal.returns-in-Ok
returns-in-Ok c = joined_ok c.args.shards.items c.in-Ok.merged c.in-Ok.ensures

pub returns-in-Err-Overlap : goal.returns-in-Err-Overlap
returns-in-Err-Overlap c = λ names. joined_fault c.args.shards.items (Overlap c.in-Err-Overlap.file) names (rw c.in-Err-Overlap.field-0-is at c.in-Err-Overlap.ensures)

pub returns-in-Err-Gap : goal.returns-in-Err-Gap
returns-in-Err-Gap c = λ names. joined_fault c.args.shards.items (Gap c.in-Err-Gap.to c.in-Err-Gap.from) names (rw c.in-Err-Gap.field-0-is at c.in-Err-Gap.ensures)
