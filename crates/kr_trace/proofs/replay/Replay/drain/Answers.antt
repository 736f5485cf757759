use Rattle.kr_trace.proofs.Replays.{drained_state}
use Rattle.kr_trace.proofs.replay.Replay.drain.Goals as goal

pub returns : goal.returns
returns c =
    let own = c.self.inside in
    drained_state own.chain c.drain-tried.new.self own.past c.saturating_add-self-inside.result c.drain-tried.result own.end own.spent c.args.self.now c.args.rows c.self.view_is c.drain-tried.ensures.tried c.saturating_add-self-inside.ensures
    c.drain-tried.ensures.segments c.drain-tried.ensures.made
