use Rattle.kr_trace.proofs.Replays.{report_found, reported, reported_spent}
use Rattle.kr_trace.proofs.replay.Replay.report.Goals as goal

pub cut_off-requires-clause-found : goal.cut_off-requires-clause-found
cut_off-requires-clause-found c =
    let own = c.self.inside in
    report_found own.chain own.past own.end own.spent c.args.self.now c.args.seat c.args.segment c.args.reach c.args.rows c.args.tried c.args.spent c.self.view_is c.requires

pub returns-then-spent : goal.returns-then-spent
returns-then-spent c =
    let own = c.self.inside in
    reported_spent own.chain c.cut_off.new.self own.past own.end c.in_ok-end.end own.spent c.args.self.now c.args.seat c.args.segment c.args.reach c.args.rows c.args.tried c.args.spent c.self.view_is c.if-spent.true c.in_ok-end.ensures
    c.cut_off.ensures.segments c.cut_off.ensures.made

pub returns : goal.returns
returns c =
    let own = c.self.inside in
    reported own.chain c.scan_to.new.self own.past own.end own.spent c.args.self.now c.args.seat c.args.segment c.args.reach c.args.rows c.args.tried c.args.spent c.self.view_is c.if-spent.false
    c.scan_to.ensures.segments c.scan_to.ensures.made
