use Rattle.kr_run_method.proofs.Costs.{has_cost}
use Rattle.kr_run_method.proofs.laws.spent_law.Goals as goal

pub returns : goal.returns
returns c = λ program m values heap. has_cost program m heap values
