use Rattle.std.proofs.Common.{◌<◌, ◌-◌, arith}
use Rattle.kr_run_known.proofs.Going.{as_kind, node_known}
use Rattle.kr_run_known.proofs.known.look_at_call.Goals as goal

pub returns-in-CallCollection : goal.returns-in-CallCollection
returns-in-CallCollection c =
    let code = c.args.code.now in
    let w = c.args.world.now in
    let lt : 0 < c.args.fuel = search arith in
    node_known code w c.args.fuel c.args.node c.in-Some.expression.now c.called.result lt c.in-Some.ensures
    (as_kind code w (c.args.fuel - 1) c.called.result _ _ c.in-CallCollection.is c.called.ensures)
