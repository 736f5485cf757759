use Rattle.kr_run_lookahead.proofs.Lefts.{point_as}
use Rattle.kr_run_lookahead.proofs.leaving.pass_on.Goals as goal

pub returns-in-Comes : goal.returns-in-Comes
returns-in-Comes c = point_as c.args.code.now c.args.waiting.now c.args.stand _ c.comes_on.result c.in-Comes.is c.comes_on.ensures

pub returns-in-Gives : goal.returns-in-Gives
returns-in-Gives c = point_as c.args.code.now c.args.waiting.now c.args.stand _ c.gives_on.result c.in-Gives.is c.gives_on.ensures
