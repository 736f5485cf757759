use Rattle.std.proofs.Common.{Some, sym, ap}
use Rattle.std.specs.Prelude.{Result}
use Rattle.kr_value.specs.declared.value.Value.{Value}
use Rattle.kr_mean.specs.declared.kind.Stop.{Stop}
use Rattle.kr_mean.specs.Steps.{bind, say}
use Rattle.kr_mean.specs.Operators.{operated}
use Rattle.kr_code.specs.Doing.{Doing}
use Rattle.kr_run_known.specs.Knowing.{fuelled}
use Rattle.kr_run_known.proofs.Going.{knows_then}
use Rattle.kr_run_known.proofs.levels.binary_of.Goals as goal

pub returns-in-Ok : goal.returns-in-Ok
returns-in-Ok g c =
    let code = c.args.code.now in
    let w = c.args.world.now in
    let first = c.in-Some.first in
    let second = c.in-Some-look.second in
    let r = Some (record { value = c.in-Ok.value; fuel = second.fuel }) in
    knows_then code w c.args.fuel first r (λ (d : Doing). d.value c.args.left) (λ (d : Doing) (v : Value). bind (d.value c.args.right) (λ u. say (operated c.args.operation v u))) c.in-Some.ensures
    (knows_then code w first.fuel second r (λ (d : Doing). d.value c.args.right) (λ (d : Doing) (u : Value). say (operated c.args.operation first.value u)) c.in-Some-look.ensures
    (λ x a d i. ap (λ (q : Result Value Stop). record { said = q; after = fuelled w second.fuel x; reads = w.reads }) (sym c.in-Ok.ensures)))
