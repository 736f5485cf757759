use Rattle.kr_trace.proofs.Replays.{opened_state}
use Rattle.kr_trace.proofs.replay.Replay.open.Goals as goal

pub returns : goal.returns
returns c =
    opened_state c.in_ok-chain.chain c.args.span.now c.args.workers c.in_ok-cuts.cuts.items c.as_slice.result.now c.in_ok-end.end c.in_ok-cuts.ensures c.as_slice.ensures.value c.in_ok-end.ensures
    c.in_ok-chain.ensures.0 c.in_ok-chain.ensures.1
