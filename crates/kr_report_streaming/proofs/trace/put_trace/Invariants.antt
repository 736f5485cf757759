use Rattle.std.proofs.Common.{◌≡◌, ◌++◌, List, ℕ, drop}
use Rattle.kr_base.specs.Told.{Added}
use Rattle.kr_report_streaming.specs.Traces.{trace_text}
use Rattle.kr_report_streaming.proofs.trace.put_trace.Given as goal

abbrev pub invariant-loop-event : goal.invariant-loop-event
invariant-loop-event g l = (sent : List ℕ) × (trace_text l.events ≡ sent ++ trace_text (drop l.event-index l.events)) × Added g.K.Sink.taken g.K.Sink.faults l.fn.out l.out sent
