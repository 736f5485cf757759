use Rattle.std.proofs.Common.{◌<◌, ◌-◌, arith}
use Rattle.kr_run_known.proofs.Going.{as_kind, node_known}
use Rattle.kr_run_known.proofs.levels.near.Goals as goal

pub returns-in-Local : goal.returns-in-Local
returns-in-Local c =
    let code = c.args.code.now in
    let w = c.args.world.now in
    let lt : 0 < c.args.fuel = search arith in
    node_known code w c.args.fuel c.args.node c.in-Some.expression.now c.local_of.result lt c.in-Some.ensures
    (as_kind code w (c.args.fuel - 1) c.local_of.result _ _ c.in-Local.is c.local_of.ensures)
