use Rattle.std.proofs.Common.{length}
use Rattle.kr_trace.specs.Chains.{walk}
use Rattle.kr_trace.proofs.Views.{TriedLeft, Walks}
use Rattle.kr_trace.proofs.chain.Chain.tried.Given as goal

abbrev pub invariant-loop-step : goal.invariant-loop-step
invariant-loop-step l =
    let own = l.self-inside in
    Walks own.nodes.items l.link l.step (TriedLeft (walk own.nodes.items (length own.nodes.items) own.first) l.tried)
