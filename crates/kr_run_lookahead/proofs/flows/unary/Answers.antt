use Rattle.kr_value.specs.declared.value.Value.{Value}
use Rattle.kr_mean.specs.Steps.{say}
use Rattle.kr_mean.specs.Operators.{operated_alone}
use Rattle.kr_code.specs.Doing.{Doing}
use Rattle.kr_run_known.proofs.Going.{knows_then}
use Rattle.kr_run_lookahead.proofs.flows.unary.Goals as goal

pub returns-in-Some : goal.returns-in-Some
returns-in-Some c = knows_then c.args.code.now c.args.world.now c.args.fuel c.in-Some.found c.operated_alone.result (λ (d : Doing). d.value c.args.operand) (λ (d : Doing) (v : Value). say (operated_alone c.args.operation v)) c.in-Some.ensures c.operated_alone.ensures
