use Rattle.kr_value.specs.declared.value.Value.{Value}
use Rattle.kr_mean.specs.Steps.{bind, element}
use Rattle.kr_code.specs.Doing.{Doing}
use Rattle.kr_run_known.proofs.Going.{knows_then}
use Rattle.kr_run_known.proofs.levels.element_of.Goals as goal

pub returns-in-Some-look : goal.returns-in-Some-look
returns-in-Some-look g c =
    let code = c.args.code.now in
    let w = c.args.world.now in
    let object = c.in-Some.object in
    let at = c.in-Some-look.at in
    knows_then code w c.args.fuel object c.known_with.result (λ (d : Doing). d.value c.args.array) (λ (d : Doing) (o : Value). bind (d.value c.args.index) (element o)) c.in-Some.ensures
    (knows_then code w object.fuel at c.known_with.result (λ (d : Doing). d.value c.args.index) (λ (d : Doing) (j : Value). element object.value j) c.in-Some-look.ensures
    (c.known_with.ensures code w (element object.value at.value) c.element.ensures))
