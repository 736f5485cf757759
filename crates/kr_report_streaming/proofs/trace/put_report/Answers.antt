use Rattle.std.proofs.Common.{◌++◌, refl, sym, append_assoc}
use Rattle.std.specs.Prelude.{codes}
use Rattle.kr_base.specs.Writing.{stopped_then, stopped_early, added_then, writes_exit, writes_then}
use Rattle.kr_report_streaming.specs.Traces.{bound_text, counts_text, head_text}
use Rattle.kr_report_streaming.proofs.trace.put_report.Goals as goal

pub returns-in_err-put_head : goal.returns-in_err-put_head
returns-in_err-put_head g c =
    writes_exit c.from_residual.result c.from_residual.ensures.0 (stopped_early (bound_text c.args.reach.now ++ counts_text c.args.rows c.args.tried c.args.spent) c.in_err-put_head.ensures refl)

pub returns-in_err-put_bound : goal.returns-in_err-put_bound
returns-in_err-put_bound g c =
    writes_exit c.from_residual-in_err-put_bound.result c.from_residual-in_err-put_bound.ensures.0
    (stopped_early (counts_text c.args.rows c.args.tried c.args.spent) (stopped_then c.in_ok-put_head.ensures c.in_err-put_bound.ensures refl) (sym (append_assoc (head_text (codes "report ") c.args.seat c.args.segment) (bound_text c.args.reach.now) (counts_text c.args.rows c.args.tried c.args.spent))))

pub returns : goal.returns
returns g c = writes_then c.put_counts.new.out (counts_text c.args.rows c.args.tried c.args.spent) c.put_counts.result (added_then c.in_ok-put_head.ensures c.in_ok-put_bound.ensures refl) c.put_counts.ensures (sym (append_assoc (head_text (codes "report ") c.args.seat c.args.segment) (bound_text c.args.reach.now) (counts_text c.args.rows c.args.tried c.args.spent)))
