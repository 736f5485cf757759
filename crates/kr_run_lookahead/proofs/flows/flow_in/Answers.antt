use Rattle.std.proofs.Common.{refl}
use Rattle.kr_value.specs.declared.value.Value.{Value}
use Rattle.kr_mean.specs.Steps.{give}
use Rattle.kr_mean.specs.declared.flow.Flow.TheVariants as flows
use Rattle.kr_code.specs.Doing.{Doing, all_at}
use Rattle.kr_code.specs.Tables.{listed}
use Rattle.kr_run_lookahead.proofs.Leading.{block_led, by_kind, value_then}
use Rattle.kr_run_lookahead.proofs.flows.flow_in.Goals as goal

pub returns-in-Empty : goal.returns-in-Empty
returns-in-Empty g c = by_kind c.args.code.now c.args.world.now c.args.fuel c.leads.result _ _ c.in-Empty.is (c.leads.ensures c.args.code.now c.args.world.now)

pub returns-in-Block : goal.returns-in-Block
returns-in-Block g c =
    let code = c.args.code.now in
    let w = c.args.world.now in
    by_kind code w c.args.fuel c.all.result _ _ c.in-Block.is (block_led code w c.args.fuel c.all.result (λ (d : Doing). all_at d (listed code c.in-Block.nodes)) c.all.ensures)

pub returns-in-Some : goal.returns-in-Some
returns-in-Some g c =
    let code = c.args.code.now in
    let w = c.args.world.now in
    let found = c.in-Some.found in
    let r = c.leads-in-Some.result in
    by_kind code w c.args.fuel r _ _ c.in-Evaluate.is (value_then code w c.args.fuel found found.value r (λ (d : Doing). d.value c.in-Evaluate.node) (λ (d : Doing) (v : Value). give flows.Next) refl c.in-Some.ensures (c.leads-in-Some.ensures code w))

pub returns-in-IfThen : goal.returns-in-IfThen
returns-in-IfThen g c = by_kind c.args.code.now c.args.world.now c.args.fuel c.branch-code.result _ _ c.in-IfThen.is c.branch-code.ensures

pub returns-in-IfElse : goal.returns-in-IfElse
returns-in-IfElse g c = by_kind c.args.code.now c.args.world.now c.args.fuel c.branch-code-in-IfElse.result _ _ c.in-IfElse.is c.branch-code-in-IfElse.ensures

pub returns-in-Break : goal.returns-in-Break
returns-in-Break g c = by_kind c.args.code.now c.args.world.now c.args.fuel c.leads-in-Break.result _ _ c.in-Break.is (c.leads-in-Break.ensures c.args.code.now c.args.world.now)

pub returns-in-Continue : goal.returns-in-Continue
returns-in-Continue g c = by_kind c.args.code.now c.args.world.now c.args.fuel c.leads-in-Continue.result _ _ c.in-Continue.is (c.leads-in-Continue.ensures c.args.code.now c.args.world.now)

pub returns-in-Leave : goal.returns-in-Leave
returns-in-Leave g c = by_kind c.args.code.now c.args.world.now c.args.fuel c.leads-in-Leave.result _ _ c.in-Leave.is (c.leads-in-Leave.ensures c.args.code.now c.args.world.now)

pub returns-in-Some-look_at : goal.returns-in-Some-look_at
returns-in-Some-look_at g c =
    let code = c.args.code.now in
    let w = c.args.world.now in
    let found = c.in-Some-look_at.found in
    let r = c.leads-in-Some-look_at.result in
    by_kind code w c.args.fuel r _ _ c.in-Return.is (value_then code w c.args.fuel found found.value r (λ (d : Doing). d.value c.in-Return.node) (λ (d : Doing) (v : Value). give (flows.Gave v)) refl c.in-Some-look_at.ensures (c.leads-in-Some-look_at.ensures code w))
