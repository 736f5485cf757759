use Rattle.std.proofs.Common.{◌≡◌, ◌++◌, ◌∙◌, ap, refl, sym, append_assoc, map}
use Rattle.std.specs.Prelude.{codes, flat_map}
use Rattle.kr_base.specs.Writing.{added_then, stopped_early, stopped_then, writes_exit, writes_then}
use Rattle.kr_classes_members.specs.Shown.{field_name}
use Rattle.kr_iso.specs.Objects.{object_of}
use Rattle.kr_mean.specs.Problem.{domain_at}
use Rattle.kr_space_layout.specs.Bounds.{bare}
use Rattle.kr_report.specs.Joined.{closing, opening}
use Rattle.kr_report.specs.Texts.{in_brackets, joined_by, object_name}
use Rattle.kr_value.specs.declared.object.Class.{Class}
use Rattle.kr_report_rows.specs.Parts.{entry_named}
use Rattle.kr_report_rows.proofs.Pieces.{object_pieces}
use Rattle.kr_report_rows.proofs.parts.put_object.Goals as goal

pub returns-in_err-put_object_name : goal.returns-in_err-put_object_name
returns-in_err-put_object_name g c =
    let b = bare c.args.layout.now in
    let o = object_of c.args.object in
    let text = joined_by (codes ",") (flat_map (entry_named b (map (field_name c.args.trees.now) c.args.fields.now) o) c.args.structure.now) in
    writes_exit c.from_residual.result c.from_residual.ensures.0
    (stopped_early (in_brackets (domain_at b c.args.object.domain).class text) c.in_err-put_object_name.ensures refl)

pub returns-in_err-put_opening : goal.returns-in_err-put_opening
returns-in_err-put_opening g c =
    let b = bare c.args.layout.now in
    let o = object_of c.args.object in
    let text = joined_by (codes ",") (flat_map (entry_named b (map (field_name c.args.trees.now) c.args.fields.now) o) c.args.structure.now) in
    let class = c.class_of-class.result in
    let name = object_name b o in
    let whole : name ++ in_brackets (domain_at b c.args.object.domain).class text ≡ name ++ opening class ++ text ++ closing class =
    ap (λ (k : Class). name ++ in_brackets k text) (sym c.class_of-class.ensures) ∙ object_pieces class name text in
    writes_exit c.from_residual-in_err-put_opening.result c.from_residual-in_err-put_opening.ensures.0
    (stopped_early (text ++ closing class) (stopped_then c.in_ok-put_object_name.ensures c.in_err-put_opening.ensures refl) (whole ∙ append_assoc (name ++ opening class) text (closing class)))

pub returns-in_err-put_parts : goal.returns-in_err-put_parts
returns-in_err-put_parts g c =
    let b = bare c.args.layout.now in
    let o = object_of c.args.object in
    let text = joined_by (codes ",") (flat_map (entry_named b (map (field_name c.args.trees.now) c.args.fields.now) o) c.args.structure.now) in
    let class = c.class_of-class.result in
    let name = object_name b o in
    let whole : name ++ in_brackets (domain_at b c.args.object.domain).class text ≡ name ++ opening class ++ text ++ closing class =
    ap (λ (k : Class). name ++ in_brackets k text) (sym c.class_of-class.ensures) ∙ object_pieces class name text in
    writes_exit c.from_residual-in_err-put_parts.result c.from_residual-in_err-put_parts.ensures.0
    (stopped_early (closing class) (stopped_then (added_then c.in_ok-put_object_name.ensures c.in_ok-put_opening.ensures refl) c.in_err-put_parts.ensures refl) whole)

pub returns : goal.returns
returns g c =
    let b = bare c.args.layout.now in
    let o = object_of c.args.object in
    let text = joined_by (codes ",") (flat_map (entry_named b (map (field_name c.args.trees.now) c.args.fields.now) o) c.args.structure.now) in
    let class = c.class_of-class.result in
    let name = object_name b o in
    let whole : name ++ in_brackets (domain_at b c.args.object.domain).class text ≡ name ++ opening class ++ text ++ closing class =
    ap (λ (k : Class). name ++ in_brackets k text) (sym c.class_of-class.ensures) ∙ object_pieces class name text in
    writes_then c.put_closing.new.out (closing class) c.put_closing.result
    (added_then (added_then c.in_ok-put_object_name.ensures c.in_ok-put_opening.ensures refl) c.in_ok-put_parts.ensures refl)
    c.put_closing.ensures whole
