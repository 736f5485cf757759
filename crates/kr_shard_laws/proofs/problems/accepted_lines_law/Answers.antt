use Rattle.kr_shard_laws.proofs.Accepted.{accepted_lines}
use Rattle.kr_shard_laws.proofs.problems.accepted_lines_law.Goals as goal

pub returns : goal.returns
returns c = accepted_lines
