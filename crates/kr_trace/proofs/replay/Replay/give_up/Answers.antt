use Rattle.kr_trace.proofs.Replays.{given_up}
use Rattle.kr_trace.proofs.replay.Replay.give_up.Goals as goal

pub returns : goal.returns
returns c =
    let own = c.self.inside in
    given_up own.chain c.set_owner.new.self own.past own.end own.spent c.args.self.now c.args.seat c.args.segment c.self.view_is c.set_owner.ensures.segments c.set_owner.ensures.made
