use Rattle.kr_laws_safety.proofs.Verdicts.{testable}
use Rattle.kr_laws_safety.proofs.stuck.tests_law.Goals as goal

pub returns : goal.returns
returns c = testable
