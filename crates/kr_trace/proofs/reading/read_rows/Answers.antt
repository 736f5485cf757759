use Rattle.std.proofs.Common.{arith}
use Rattle.kr_text.specs.Splitting.{lines_in}
use Rattle.kr_trace.proofs.Folds.{begins_with, line_there, reads_all, reads_next, reads_refused}
use Rattle.kr_trace.proofs.reading.read_rows.Goals as goal

pub loop-at-init : goal.loop-at-init
loop-at-init c =
    begins_with c.args.tests c.args.end.now c.args.text.now c.args.count c.args.after.now c.in_ok-before.before c.new.result c.in_ok-before.ensures c.new.ensures

pub unreachable-requires : goal.unreachable-requires
unreachable-requires c =
    let loop = c.loop-at in
    line_there c.args.tests c.args.end.now (lines_in c.args.text.now) c.args.count c.args.after.now loop.reading.rows loop.reading.before loop.rest.now loop.at loop.invariant (omega arith) c.requires.count c.in_default.ensures

pub returns-in-Err : goal.returns-in-Err
returns-in-Err c =
    let loop = c.loop-at in
    reads_refused c.args.tests c.args.end.now (lines_in c.args.text.now) c.args.count c.args.after.now loop.reading.rows loop.reading.before loop.rest.now c.in-Some.line.now c.in-Some.later.now loop.at c.in-Err.refusal
    loop.invariant (omega arith) c.in-Some.ensures.0 c.in-Err.ensures

pub loop-at-preserved : goal.loop-at-preserved
loop-at-preserved c =
    let loop = c.loop-at in
    reads_next c.args.tests c.args.end.now (lines_in c.args.text.now) c.args.count c.args.after.now loop.reading.rows loop.reading.before loop.rest.now c.in-Some.line.now c.in-Some.later.now loop.at c.in-Ok.next
    loop.invariant (omega arith) c.in-Some.ensures.0 c.in-Ok.ensures

pub returns : goal.returns
returns c =
    let loop = c.loop-at in
    reads_all c.args.tests c.args.end.now (lines_in c.args.text.now) c.args.count c.args.after.now loop.reading.rows loop.reading.before loop.rest.now loop.at loop.invariant (omega arith)
