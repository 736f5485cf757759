use Rattle.std.proofs.Common.{◌++◌, ◌∙◌, [], refl, sym, append_assoc}
use Rattle.std.specs.Prelude.{codes, if◌then◌else◌}
use Rattle.kr_base.specs.Writing.{added_then, stopped_early, stopped_then, writes_exit, writes_then}
use Rattle.kr_space_layout.specs.Bounds.{bare}
use Rattle.kr_report.specs.Texts.{value_text}
use Rattle.kr_report_rows.proofs.Pieces.{field_pieces}
use Rattle.kr_report_rows.proofs.values.put_field.Goals as goal

pub returns-in_err-put_between : goal.returns-in_err-put_between
returns-in_err-put_between g c =
    let value = value_text (bare c.args.layout.now) c.args.value in
    let label = c.args.name.now ++ codes "=" in
    writes_exit c.from_residual.result c.from_residual.ensures.0
    (stopped_early (label ++ value) c.in_err-put_between.ensures (field_pieces (codes ",") c.args.any label value))

pub returns-in_err-put_label : goal.returns-in_err-put_label
returns-in_err-put_label g c =
    let value = value_text (bare c.args.layout.now) c.args.value in
    let label = c.args.name.now ++ codes "=" in
    let between = if c.args.any then codes "," else [] in
    writes_exit c.from_residual-in_err-put_label.result c.from_residual-in_err-put_label.ensures.0
    (stopped_early value (stopped_then c.in_ok-put_between.ensures c.in_err-put_label.ensures refl)
    (field_pieces (codes ",") c.args.any label value ∙ sym (append_assoc between label value)))

pub returns : goal.returns
returns g c =
    let value = value_text (bare c.args.layout.now) c.args.value in
    let label = c.args.name.now ++ codes "=" in
    let between = if c.args.any then codes "," else [] in
    writes_then c.put_value.new.out value c.put_value.result (added_then c.in_ok-put_between.ensures c.in_ok-put_label.ensures refl) c.put_value.ensures
    (field_pieces (codes ",") c.args.any label value ∙ sym (append_assoc between label value))
