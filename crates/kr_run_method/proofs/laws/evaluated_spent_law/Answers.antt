use Rattle.kr_run_method.proofs.Costs.{evaluation_has_cost}
use Rattle.kr_run_method.proofs.laws.evaluated_spent_law.Goals as goal

pub returns : goal.returns
returns c = λ program m e env heap. evaluation_has_cost program m e env heap
