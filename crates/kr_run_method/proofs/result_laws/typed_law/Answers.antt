use Rattle.std.proofs.Common.{false, refl}
use Rattle.kr_laws_types.specs.Shapes.{Expression}
use Rattle.kr_run_method.proofs.Typing.{code_same, same}
use Rattle.kr_run_method.proofs.result_laws.typed_law.Goals as goal

pub returns : goal.returns
returns c = λ arrays olds s e h f. (same arrays olds (Expression false) s s e h refl f, code_same arrays olds (Expression false) s e h refl f)
