use Rattle.std.proofs.Common.{◌<◌, ◌-◌, arith}
use Rattle.kr_code.specs.Doing.{Doing, all_at}
use Rattle.kr_code.specs.Tables.{listed}
use Rattle.kr_run_lookahead.proofs.Leading.{block_led, by_kind, node_led}
use Rattle.kr_run_lookahead.proofs.flows.known_flow.Goals as goal

pub returns-in-Block : goal.returns-in-Block
returns-in-Block c =
    let code = c.args.code.now in
    let w = c.args.world.now in
    let n = c.args.fuel - 1 in
    let r = c.known_flow_of.result in
    let lt : 0 < c.args.fuel = search arith in
    node_led code w c.args.fuel c.args.node c.in-Some.statement.now r lt c.in-Some.ensures
    (by_kind code w n r _ _ c.in-Block.is (block_led code w n r (λ (d : Doing). all_at d (listed code c.in-Block.nodes)) c.known_flow_of.ensures))
