use Rattle.std.proofs.Common.{refl}
use Rattle.kr_base.specs.Writing.{stopped_early, writes_exit, writes_then}
use Rattle.kr_report_streaming.specs.Traces.{trace_text}
use Rattle.kr_report_streaming.proofs.closing.put_closing.Goals as goal

pub returns-in_err-summary_text : goal.returns-in_err-summary_text
returns-in_err-summary_text g c = writes_exit c.from_residual.result c.from_residual.ensures.0 (stopped_early (trace_text c.args.log.now) c.in_err-summary_text.ensures refl)

pub returns : goal.returns
returns g c = writes_then c.put_trace.new.out (trace_text c.args.log.now) c.put_trace.result c.in_ok-summary_text.ensures c.put_trace.ensures refl
