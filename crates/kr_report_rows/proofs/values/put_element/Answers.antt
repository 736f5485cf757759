use Rattle.std.specs.Prelude.{codes}
use Rattle.kr_base.specs.Writing.{stopped_early, writes_exit, writes_then}
use Rattle.kr_space_layout.specs.Bounds.{bare}
use Rattle.kr_report.specs.Texts.{value_text}
use Rattle.kr_report.proofs.Joined.{separated_one}
use Rattle.kr_report_rows.proofs.values.put_element.Goals as goal

pub returns-in_err-put_between : goal.returns-in_err-put_between
returns-in_err-put_between g c =
    let value = value_text (bare c.args.layout.now) c.args.value in
    writes_exit c.from_residual.result c.from_residual.ensures.0
    (stopped_early value c.in_err-put_between.ensures (separated_one (codes ",") c.args.any value))

pub returns : goal.returns
returns g c =
    let value = value_text (bare c.args.layout.now) c.args.value in
    writes_then c.put_value.new.out value c.put_value.result c.in_ok-put_between.ensures c.put_value.ensures (separated_one (codes ",") c.args.any value)
