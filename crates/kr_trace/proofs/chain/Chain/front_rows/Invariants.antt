use Rattle.std.proofs.Common.{length}
use Rattle.kr_trace.specs.Chains.{walk}
use Rattle.kr_trace.proofs.Views.{FrontLeft, Walks}
use Rattle.kr_trace.proofs.chain.Chain.front_rows.Given as goal

abbrev pub invariant-loop-step : goal.invariant-loop-step
invariant-loop-step l =
    let own = l.self-inside in
    Walks own.nodes.items l.link l.step (FrontLeft (walk own.nodes.items (length own.nodes.items) own.first) l.rows)
