use Rattle.kr_laws_never_stuck.proofs.Accepted.{never_stuck}
use Rattle.kr_laws_never_stuck.proofs.never_stuck.never_stuck_law.Goals as goal

pub returns : goal.returns
returns c = never_stuck
