use Rattle.kr_laws_safety.proofs.Runs.{predicate_unstuck}
use Rattle.kr_laws_safety.proofs.stuck.candidates_law.Goals as goal

pub returns : goal.returns
returns c = predicate_unstuck
