use Rattle.kr_trace.proofs.Replays.{steal_found, stolen_state}
use Rattle.kr_trace.proofs.replay.Replay.steal.Goals as goal

pub split-requires : goal.split-requires
split-requires c =
    let own = c.self.inside in
    steal_found own.chain own.past own.end own.spent c.args.self.now c.args.seat c.args.victim c.args.cut c.args.segment c.self.view_is c.requires

pub returns : goal.returns
returns c =
    let own = c.self.inside in
    stolen_state own.chain c.split.new.self own.past own.end own.spent c.args.self.now c.args.seat c.args.victim c.args.cut c.args.segment c.self.view_is c.requires c.in_ok-split.ensures.segments c.in_ok-split.ensures.made
