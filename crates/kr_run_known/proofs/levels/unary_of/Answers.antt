use Rattle.std.proofs.Common.{Some, sym, ap}
use Rattle.std.specs.Prelude.{Result}
use Rattle.kr_value.specs.declared.value.Value.{Value}
use Rattle.kr_mean.specs.declared.kind.Stop.{Stop}
use Rattle.kr_mean.specs.Steps.{say}
use Rattle.kr_mean.specs.Operators.{operated_alone}
use Rattle.kr_code.specs.Doing.{Doing}
use Rattle.kr_run_known.specs.Knowing.{fuelled}
use Rattle.kr_run_known.proofs.Going.{knows_then}
use Rattle.kr_run_known.proofs.levels.unary_of.Goals as goal

pub returns-in-Ok : goal.returns-in-Ok
returns-in-Ok g c =
    let w = c.args.world.now in
    let found = c.in-Some.found in
    knows_then c.args.code.now w c.args.fuel found (Some (record { value = c.in-Ok.value; fuel = found.fuel })) (λ (d : Doing). d.value c.args.operand) (λ (d : Doing) (v : Value). say (operated_alone c.args.operation v)) c.in-Some.ensures
    (λ x a d i. ap (λ (r : Result Value Stop). record { said = r; after = fuelled w found.fuel x; reads = w.reads }) (sym c.in-Ok.ensures))
