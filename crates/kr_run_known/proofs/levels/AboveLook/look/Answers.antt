use Rattle.std.proofs.Common.{◌<◌, arith}
use Rattle.kr_run_known.proofs.Going.{node_known}
use Rattle.kr_run_known.proofs.levels.AboveLook.look.Goals as goal

pub returns-in-Some : goal.returns-in-Some
returns-in-Some g c =
    let lt : 0 < c.args.fuel = search arith in
    node_known c.args.code.now c.args.world.now c.args.fuel c.args.node c.in-Some.expression.now c.value_in.result lt c.in-Some.ensures c.value_in.ensures
