use Rattle.std.proofs.Common.{◌+◌, ◌≤◌, drop, length, arith}
use Rattle.kr_run_lookahead.specs.declared.leaving.Point.TheVariants as points
use Rattle.kr_run_lookahead.proofs.Goes.{drop_next, none_below}
use Rattle.kr_run_lookahead.proofs.Lefts.{back_on, told_last}
use Rattle.kr_run_lookahead.proofs.leaving.left_ahead.Goals as goal

pub frames-preserved : goal.frames-preserved
frames-preserved c =
    let fs = c.args.stack.now in
    let on = c.in-Some.ensures in
    back_on c.args.code.now (drop c.args.depth fs) (drop c.frames.at fs) (drop (c.frames.at + 1) fs) c.in-Some.waiting.now (record { point = points.Gives c.args.given; fuel = c.args.fuel }) c.frames.stand c.in-Some-pass_on.next on c.frames.invariant (drop_next c.frames.at fs on.rest _ on.is) c.in-Some-pass_on.ensures

pub returns-in-Comes : goal.returns-in-Comes
returns-in-Comes c =
    let fs = c.args.stack.now in
    let all : length fs ≤ c.frames.at = search arith in
    told_last c.args.code.now (drop c.args.depth fs) (drop c.frames.at fs) (record { point = points.Gives c.args.given; fuel = c.args.fuel }) c.frames.stand c.in-Comes.value c.frames.invariant (none_below c.frames.at fs all) c.in-Comes.is

pub frames-init : goal.frames-init
frames-init c = c.body_end-at.ensures c.args.code.now c.args.given c.args.fuel
