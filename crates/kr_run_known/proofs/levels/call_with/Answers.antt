use Rattle.std.specs.Prelude.{[], ◌∷◌}
use Rattle.kr_value.specs.declared.value.Value.{Value}
use Rattle.kr_mean.specs.Steps.{bind, collect}
use Rattle.kr_code.specs.Collections.{name_of}
use Rattle.kr_code.specs.Doing.{Doing}
use Rattle.kr_run_known.proofs.Going.{knows_then}
use Rattle.kr_run_known.proofs.levels.call_with.Goals as goal

pub returns-in-Some-argument_of : goal.returns-in-Some-argument_of
returns-in-Some-argument_of g c =
    let code = c.args.code.now in
    let w = c.args.world.now in
    let found = c.in-Some.found in
    let given = c.in-Some-argument_of.given in
    let n = name_of c.args.call in
    knows_then code w c.args.fuel found c.known_with.result (λ (d : Doing). d.value c.args.object) (λ (d : Doing) (o : Value). bind (d.value c.args.argument) (λ v. collect n o (v ∷ []))) c.in-Some.ensures
    (knows_then code w found.fuel given c.known_with.result (λ (d : Doing). d.value c.args.argument) (λ (d : Doing) (v : Value). collect n found.value (v ∷ [])) c.in-Some-argument_of.ensures
    (c.known_with.ensures code w (collect n found.value (given.value ∷ [])) c.asked_with.ensures))
