use Rattle.kr_run_method.proofs.CostLaws.{value_cost}
use Rattle.kr_run_method.proofs.cost_laws.value_cost_law.Goals as goal

pub returns : goal.returns
returns c = value_cost
