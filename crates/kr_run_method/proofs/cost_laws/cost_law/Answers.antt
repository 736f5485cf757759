use Rattle.kr_run_method.proofs.CostLaws.{body_cost}
use Rattle.kr_run_method.proofs.cost_laws.cost_law.Goals as goal

pub returns : goal.returns
returns c = body_cost
