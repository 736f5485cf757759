use Rattle.kr_code_lowering.specs.Sites.{scope_at}
use Rattle.kr_code_lowering.proofs.Declared.{own_number, own_there}
use Rattle.kr_code_lowering.proofs.declarators.own_number.Goals as goal

pub returns-in-Some : goal.returns-in-Some
returns-in-Some c = λ t s e. own_number c.args.name.now t s (scope_at c.args.program.now c.args.initial) c.in-Some.local.number e c.in-Some.ensures.found

pub returns-in-None : goal.returns-in-None
returns-in-None c = λ t s e. absurd (own_there c.args.name.now t s (scope_at c.args.program.now c.args.initial) e c.in-None.ensures.none)
