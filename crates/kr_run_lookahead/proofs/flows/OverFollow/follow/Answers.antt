use Rattle.std.proofs.Common.{◌<◌, arith}
use Rattle.kr_run_lookahead.proofs.Leading.{node_led}
use Rattle.kr_run_lookahead.proofs.flows.OverFollow.follow.Goals as goal

pub returns-in-Some : goal.returns-in-Some
returns-in-Some g c =
    let lt : 0 < c.args.fuel = search arith in
    node_led c.args.code.now c.args.world.now c.args.fuel c.args.node c.in-Some.statement.now c.flow_in.result lt c.in-Some.ensures c.flow_in.ensures
