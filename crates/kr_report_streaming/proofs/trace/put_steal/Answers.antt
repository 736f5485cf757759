use Rattle.std.proofs.Common.{◌++◌, refl, sym, append_assoc}
use Rattle.std.specs.Prelude.{codes}
use Rattle.kr_base.specs.Cuts.{cut_text}
use Rattle.kr_base.specs.Writing.{stopped_then, stopped_early, added_then, writes_exit, writes_then}
use Rattle.kr_report_streaming.specs.Traces.{head_text, one_text}
use Rattle.kr_report_streaming.proofs.trace.put_steal.Goals as goal

pub returns-in_err-put_head : goal.returns-in_err-put_head
returns-in_err-put_head g c =
    writes_exit c.from_residual.result c.from_residual.ensures.0 (stopped_early (cut_text c.args.cut.now ++ one_text (codes " ") c.args.segment) c.in_err-put_head.ensures refl)

pub returns-in_err-write : goal.returns-in_err-write
returns-in_err-write g c =
    writes_exit c.from_residual-in_err-write.result c.from_residual-in_err-write.ensures.0
    (stopped_early (one_text (codes " ") c.args.segment) (stopped_then c.in_ok-put_head.ensures c.in_err-write.ensures refl) (sym (append_assoc (head_text (codes "steal ") c.args.seat c.args.victim) (cut_text c.args.cut.now) (one_text (codes " ") c.args.segment))))

pub returns : goal.returns
returns g c = writes_then c.put_one.new.out (one_text (codes " ") c.args.segment) c.put_one.result (added_then c.in_ok-put_head.ensures c.in_ok-write.ensures refl) c.put_one.ensures (sym (append_assoc (head_text (codes "steal ") c.args.seat c.args.victim) (cut_text c.args.cut.now) (one_text (codes " ") c.args.segment)))
