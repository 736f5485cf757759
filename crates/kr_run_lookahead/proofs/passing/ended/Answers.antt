use Rattle.std.proofs.Common.{◌<◌, arith}
use Rattle.kr_run_lookahead.proofs.Alike.{round_known}
use Rattle.kr_run_lookahead.proofs.passing.ended.Goals as goal

pub returns-in-Some-look_at : goal.returns-in-Some-look_at
returns-in-Some-look_at c =
    let lt : 0 < c.args.fuel = search arith in
    round_known c.args.code.now c.args.world.now c.args.fuel c.in-Some.condition c.in-Some-look_at.found c.left_loop.result c.args.turn lt c.in-Some.ensures c.in-Some-look_at.ensures c.left_loop.ensures
