use Rattle.std.proofs.Common.{◌++◌, refl, sym, append_assoc}
use Rattle.std.specs.Prelude.{codes}
use Rattle.kr_base.specs.Cuts.{cut_text}
use Rattle.kr_base.specs.Writing.{stopped_then, stopped_early, added_then, writes_exit, writes_then}
use Rattle.kr_report_streaming.proofs.trace.put_marked.Goals as goal

pub returns-in_err-put_all : goal.returns-in_err-put_all
returns-in_err-put_all g c =
    writes_exit c.from_residual.result c.from_residual.ensures.0 (stopped_early (cut_text c.args.mark.now ++ codes "\n") c.in_err-put_all.ensures refl)

pub returns-in_err-write : goal.returns-in_err-write
returns-in_err-write g c =
    writes_exit c.from_residual-in_err-write.result c.from_residual-in_err-write.ensures.0
    (stopped_early (codes "\n") (stopped_then c.in_ok-put_all.ensures c.in_err-write.ensures refl) (sym (append_assoc (codes "stop ") (cut_text c.args.mark.now) (codes "\n"))))

pub returns : goal.returns
returns g c = writes_then c.put_all-2.new.out (codes "\n") c.put_all-2.result (added_then c.in_ok-put_all.ensures c.in_ok-write.ensures refl) c.put_all-2.ensures (sym (append_assoc (codes "stop ") (cut_text c.args.mark.now) (codes "\n")))
