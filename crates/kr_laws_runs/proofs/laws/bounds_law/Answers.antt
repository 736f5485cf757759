use Rattle.kr_laws_runs.proofs.Bounds.{has_equations}
use Rattle.kr_laws_runs.proofs.laws.bounds_law.Goals as goal

pub returns : goal.returns
returns c = has_equations
