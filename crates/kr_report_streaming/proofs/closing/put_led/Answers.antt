use Rattle.std.proofs.Common.{refl}
use Rattle.kr_base.specs.Writing.{stopped_early, writes_exit, writes_then}
use Rattle.kr_report.specs.Summaries.{summary_line}
use Rattle.kr_report_streaming.proofs.closing.put_led.Goals as goal

pub returns-in_err-put_all : goal.returns-in_err-put_all
returns-in_err-put_all g c = writes_exit c.from_residual.result c.from_residual.ensures.0 (stopped_early (summary_line c.args.closing.now.summary) c.in_err-put_all.ensures refl)

pub returns : goal.returns
returns g c = writes_then c.summary_text.new.out (summary_line c.args.closing.now.summary) c.summary_text.result c.in_ok-put_all.ensures c.summary_text.ensures refl
