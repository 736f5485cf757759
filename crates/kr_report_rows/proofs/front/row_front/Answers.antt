use Rattle.std.proofs.Common.{◌++◌, refl, append_assoc}
use Rattle.std.specs.Prelude.{codes}
use Rattle.kr_base.specs.Cuts.{cut_text}
use Rattle.kr_base.specs.Writing.{stopped_then, stopped_early, added_then, writes_exit, writes_then}
use Rattle.kr_report.specs.Texts.{verdict_text}
use Rattle.kr_space_problem.specs.Posed.{posed}
use Rattle.kr_report_rows.proofs.front.row_front.Goals as goal

pub returns-in_err-put_key : goal.returns-in_err-put_key
returns-in_err-put_key g c =
    writes_exit c.from_residual.result c.from_residual.ensures.0
    (stopped_early (codes " " ++ verdict_text (posed c.args.prepared.now.problem).program.table.headings c.args.row.now.verdict) c.in_err-put_key.ensures (append_assoc (cut_text c.args.row.now.key) (codes " ") (verdict_text (posed c.args.prepared.now.problem).program.table.headings c.args.row.now.verdict)))

pub returns-in_err-put_all : goal.returns-in_err-put_all
returns-in_err-put_all g c =
    writes_exit c.from_residual-in_err-put_all.result c.from_residual-in_err-put_all.ensures.0
    (stopped_early (verdict_text (posed c.args.prepared.now.problem).program.table.headings c.args.row.now.verdict) (stopped_then c.in_ok-put_key.ensures c.in_err-put_all.ensures refl) refl)

pub returns : goal.returns
returns g c = writes_then c.put_judged.new.out (verdict_text (posed c.args.prepared.now.problem).program.table.headings c.args.row.now.verdict) c.put_judged.result (added_then c.in_ok-put_key.ensures c.in_ok-put_all.ensures refl) c.put_judged.ensures refl
