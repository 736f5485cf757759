use Rattle.kr_run_method.proofs.ResultRuns.{runs_same}
use Rattle.kr_run_method.proofs.result_laws.runs_law.Goals as goal

pub returns : goal.returns
returns c = runs_same
