use Rattle.kr_code_laws.proofs.Resolved.{is_run_by}
use Rattle.kr_code_laws.proofs.laws.resolved_law.Goals as goal

pub returns : goal.returns
returns c = is_run_by
