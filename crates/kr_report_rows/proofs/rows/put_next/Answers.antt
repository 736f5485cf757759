use Rattle.std.specs.Prelude.{codes}
use Rattle.kr_base.specs.Writing.{stopped_early, writes_exit, writes_then}
use Rattle.kr_iso.specs.Objects.{object_of}
use Rattle.kr_space_problem.specs.Posed.{posed}
use Rattle.kr_report.specs.Texts.{object_text}
use Rattle.kr_report.proofs.Joined.{separated_one}
use Rattle.kr_report_rows.proofs.rows.put_next.Goals as goal

pub returns-in_err-put_between : goal.returns-in_err-put_between
returns-in_err-put_between g c =
    let text = object_text (posed c.args.prepared.now.problem) c.args.structure.now (object_of c.args.object) in
    writes_exit c.from_residual.result c.from_residual.ensures.0
    (stopped_early text c.in_err-put_between.ensures (separated_one (codes " ") c.args.any text))

pub returns : goal.returns
returns g c =
    let text = object_text (posed c.args.prepared.now.problem) c.args.structure.now (object_of c.args.object) in
    writes_then c.put_structured.new.out text c.put_structured.result c.in_ok-put_between.ensures c.put_structured.ensures (separated_one (codes " ") c.args.any text)
