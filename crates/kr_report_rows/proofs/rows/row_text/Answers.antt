use Rattle.std.proofs.Common.{◌++◌, refl, append_assoc}
use Rattle.std.specs.Prelude.{codes}
use Rattle.kr_base.specs.Cuts.{cut_text}
use Rattle.kr_base.specs.Writing.{stopped_then, stopped_early, added_then, writes_exit, writes_then}
use Rattle.kr_space_problem.specs.Posed.{posed}
use Rattle.kr_report.specs.Texts.{structure_text, verdict_text}
use Rattle.kr_report_rows.proofs.rows.row_text.Goals as goal

pub returns-in_err-row_front : goal.returns-in_err-row_front
returns-in_err-row_front g c =
    let text = structure_text (posed c.args.prepared.now.problem) c.args.row.now.structure in
    writes_exit c.from_residual.result c.from_residual.ensures.0
    (stopped_early (text ++ codes "\n") c.in_err-row_front.ensures
    (append_assoc (cut_text c.args.row.now.key ++ codes " " ++ verdict_text (posed c.args.prepared.now.problem).program.table.headings c.args.row.now.verdict) text (codes "\n")))

pub returns-in_err-structure_text : goal.returns-in_err-structure_text
returns-in_err-structure_text g c =
    writes_exit c.from_residual-in_err-structure_text.result c.from_residual-in_err-structure_text.ensures.0
    (stopped_early (codes "\n") (stopped_then c.in_ok-row_front.ensures c.in_err-structure_text.ensures refl) refl)

pub returns : goal.returns
returns g c = writes_then c.put_all.new.out (codes "\n") c.put_all.result (added_then c.in_ok-row_front.ensures c.in_ok-structure_text.ensures refl) c.put_all.ensures refl
