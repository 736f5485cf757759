use Rattle.std.proofs.Common.{◌+◌, drop}
use Rattle.kr_run_lookahead.specs.declared.leaving.Point.TheVariants as points
use Rattle.kr_run_lookahead.specs.declared.leaving.Stand.{Stand}
use Rattle.kr_run_lookahead.proofs.Goes.{drop_next}
use Rattle.kr_run_lookahead.proofs.Lefts.{back_on}
use Rattle.kr_run_lookahead.proofs.leaving.body_end.Goals as goal

pub frames-init : goal.frames-init
frames-init c = λ code u n v g. g

pub frames-preserved : goal.frames-preserved
frames-preserved c = λ code u n.
    let fs = c.args.stack.now in
    let on = c.in-Some.ensures in
    let a : Stand = record { point = points.Gives u; fuel = n } in
    back_on code (drop c.args.depth fs) (drop c.frames.at fs) (drop (c.frames.at + 1) fs) c.in-Some.waiting.now a a a on (c.frames.invariant code u n) (drop_next c.frames.at fs on.rest _ on.is) (c.is_in_body.ensures c.if-not-is_in_body.false code u n)

pub returns : goal.returns
returns c = c.frames.invariant
