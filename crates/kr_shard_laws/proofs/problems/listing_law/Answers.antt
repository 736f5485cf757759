use Rattle.kr_shard_laws.proofs.Accepted.{listing}
use Rattle.kr_shard_laws.proofs.problems.listing_law.Goals as goal

pub returns : goal.returns
returns c = listing
