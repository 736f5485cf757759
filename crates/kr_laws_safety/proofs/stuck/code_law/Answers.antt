use Rattle.kr_laws_safety.proofs.Runs.{code_safe}
use Rattle.kr_laws_safety.proofs.stuck.code_law.Goals as goal

pub returns : goal.returns
returns c = code_safe
