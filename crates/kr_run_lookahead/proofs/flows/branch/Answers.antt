use Rattle.std.proofs.Common.{None, Some, true, false, rules}
use Rattle.kr_value.specs.declared.value.Value.{Value}
use Rattle.kr_value.specs.declared.value.Value.TheVariants.{Bool as Truth}
use Rattle.kr_mean.specs.Meaning.{choose}
use Rattle.kr_code.specs.Doing.{Doing}
use Rattle.kr_run_lookahead.specs.Flows.{otherwise}
use Rattle.kr_run_lookahead.proofs.Leading.{otherwise_as, value_then}
use Rattle.kr_run_lookahead.proofs.flows.branch.Goals as goal

pub returns-in-Bool-true : goal.returns-in-Bool-true
returns-in-Bool-true g c =
    let code = c.args.code.now in
    let w = c.args.world.now in
    value_then code w c.args.fuel c.in-Some.found (Truth true) c.taken.result (λ (d : Doing). d.value c.args.condition) (λ (d : Doing) (v : Value). choose v (d.exec c.args.then) (otherwise d c.args.otherwise)) (search rules) c.in-Some.ensures c.taken.ensures

pub returns-in-None-otherwise : goal.returns-in-None-otherwise
returns-in-None-otherwise g c =
    let code = c.args.code.now in
    let w = c.args.world.now in
    let found = c.in-Some.found in
    let r = c.leads.result in
    value_then code w c.args.fuel found (Truth false) r (λ (d : Doing). d.value c.args.condition) (λ (d : Doing) (v : Value). choose v (d.exec c.args.then) (otherwise d c.args.otherwise)) (search rules) c.in-Some.ensures
    (otherwise_as code w found.fuel r c.args.otherwise None c.in-None-otherwise.is (c.leads.ensures code w))

pub returns-in-Some-otherwise : goal.returns-in-Some-otherwise
returns-in-Some-otherwise g c =
    let code = c.args.code.now in
    let w = c.args.world.now in
    let found = c.in-Some.found in
    let r = c.follow.result in
    value_then code w c.args.fuel found (Truth false) r (λ (d : Doing). d.value c.args.condition) (λ (d : Doing) (v : Value). choose v (d.exec c.args.then) (otherwise d c.args.otherwise)) (search rules) c.in-Some.ensures
    (otherwise_as code w found.fuel r c.args.otherwise (Some c.in-Some-otherwise.node) c.in-Some-otherwise.is c.follow.ensures)
