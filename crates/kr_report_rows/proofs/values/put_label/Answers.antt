use Rattle.std.proofs.Common.{refl}
use Rattle.std.specs.Prelude.{codes}
use Rattle.kr_base.specs.Writing.{stopped_early, writes_exit, writes_then}
use Rattle.kr_report_rows.proofs.values.put_label.Goals as goal

pub returns-in_err-put_all : goal.returns-in_err-put_all
returns-in_err-put_all g c =
    writes_exit c.from_residual.result c.from_residual.ensures.0
    (stopped_early (codes "=") c.in_err-put_all.ensures refl)

pub returns : goal.returns
returns g c = writes_then c.put_all-2.new.out (codes "=") c.put_all-2.result c.in_ok-put_all.ensures c.put_all-2.ensures refl
