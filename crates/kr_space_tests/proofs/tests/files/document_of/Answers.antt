use Rattle.std.proofs.lemmas.Result.{IfOk-weaker}
use Rattle.kr_space.proofs.ReadLimits.{read_limits}
use Rattle.kr_space_tests.proofs.tests.files.document_of.Goals as goal

pub returns : goal.returns
returns c = IfOk-weaker c.read_fin.result _ _ (λ document e. read_limits _ document e) c.read_fin.ensures.read
