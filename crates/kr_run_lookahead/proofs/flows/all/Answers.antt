use Rattle.kr_code.specs.Tables.{listed}
use Rattle.kr_run_lookahead.proofs.Leading.{away_from, none_left, on_alike, on_to}
use Rattle.kr_run_lookahead.proofs.flows.all.Goals as goal

pub returns-in-None : goal.returns-in-None
returns-in-None g c =
    let code = c.args.code.now in
    let w = c.args.world.now in
    let fuel = c.statements.fuel_left in
    let left = listed code c.statements.left in
    on_alike code w c.args.fuel fuel (listed code c.args.nodes) left c.leads.result c.statements.invariant
    (none_left code w fuel c.leads.result left c.in-None.ensures (c.leads.ensures code w))

pub returns-in_default : goal.returns-in_default
returns-in_default g c =
    let code = c.args.code.now in
    let w = c.args.world.now in
    let fuel = c.statements.fuel_left in
    let left = listed code c.statements.left in
    let r = c.leads-in_default.result in
    on_alike code w c.args.fuel fuel (listed code c.args.nodes) left r c.statements.invariant
    (away_from code w fuel c.in-Some.node c.in-Some-follow.led r left (listed code c.in-Some.others) c.in-Some.ensures c.in_default.not-Next c.in-Some-follow.ensures (c.leads-in_default.ensures code w))

pub statements-preserved : goal.statements-preserved
statements-preserved g c =
    let code = c.args.code.now in
    let w = c.args.world.now in
    let left = listed code c.statements.left in
    λ j h. c.statements.invariant j (on_to code w c.statements.fuel_left c.in-Some.node c.in-Some-follow.led left (listed code c.in-Some.others) c.in-Some.ensures c.in-Next.is c.in-Some-follow.ensures j h)
