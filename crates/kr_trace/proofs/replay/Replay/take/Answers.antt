use Rattle.kr_trace.proofs.Replays.{taken}
use Rattle.kr_trace.proofs.replay.Replay.take.Goals as goal

pub returns : goal.returns
returns c =
    let own = c.self.inside in
    taken own.chain c.set_owner.new.self own.past own.end own.spent c.args.self.now c.args.seat c.args.segment c.self.view_is c.set_owner.ensures.segments c.set_owner.ensures.made
