use Rattle.std.proofs.Common.{◌≡◌, rules}
use Rattle.kr_value.specs.declared.value.Value.{Value}
use Rattle.std.specs.Prelude.{[]}
use Rattle.kr_mean.specs.Steps.{bind, collect}
use Rattle.kr_code.specs.Collections.{name_of}
use Rattle.kr_code.specs.Doing.{Doing, values_at}
use Rattle.kr_code.specs.Tables.{listed}
use Rattle.kr_run_known.proofs.Going.{knows_then, no_values, none_listed}
use Rattle.kr_run_known.proofs.levels.call_of.Goals as goal

pub returns-in-Some : goal.returns-in-Some
returns-in-Some g c =
    let code = c.args.code.now in
    let w = c.args.world.now in
    let found = c.in-Some.found in
    let n = name_of c.args.call in
    let zero : c.args.arguments.count ≡ 0 = search rules in
    knows_then code w c.args.fuel found c.known_with.result (λ (d : Doing). d.value c.args.object) (λ (d : Doing) (o : Value). bind (values_at d (listed code c.args.arguments)) (collect n o)) c.in-Some.ensures
    (no_values code w found.fuel c.known_with.result (collect n found.value) (listed code c.args.arguments) (none_listed code c.args.arguments zero)
    (c.known_with.ensures code w (collect n found.value []) c.asked.ensures))
