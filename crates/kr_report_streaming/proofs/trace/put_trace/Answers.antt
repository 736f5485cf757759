use Rattle.std.proofs.Common.{◌++◌, ◌+◌, drop, refl}
use Rattle.kr_base.specs.Writing.{stopped_then, stopped_early, added_then, writes_exit}
use Rattle.kr_report_streaming.specs.Traces.{event_text, trace_text}
use Rattle.kr_report_streaming.proofs.Pieces.{sent_more}
use Rattle.kr_report_streaming.proofs.trace.put_trace.Goals as goal

pub returns-in_err-put_event : goal.returns-in_err-put_event
returns-in_err-put_event g c =
    let i = c.loop-event.event-index in
    let es = c.args.events.now in
    let e = c.event-item.result in
    writes_exit c.from_residual.result c.from_residual.ensures.0
    (stopped_early (trace_text (drop (i + 1) es)) (stopped_then c.loop-event.invariant.2 c.in_err-put_event.ensures refl)
    (sent_more es i e c.event-item.is c.loop-event.invariant.0 c.loop-event-test.true c.loop-event.invariant.1))

pub loop-event-preserved : goal.loop-event-preserved
loop-event-preserved g c =
    let i = c.loop-event.event-index in
    let es = c.args.events.now in
    let e = c.event-item.result in
    let sent = c.loop-event.invariant.0 in (
      sent ++ event_text e,
      sent_more es i e c.event-item.is sent c.loop-event-test.true c.loop-event.invariant.1,
      added_then c.loop-event.invariant.2 c.in_ok-put_event.ensures refl,
    )
