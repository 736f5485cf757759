use Rattle.std.proofs.Common.{◌∙◌, List, [], ◌∷◌, ap, sym, take}
use Rattle.std.specs.Prelude.{flat_map}
use Rattle.kr_iso.specs.Objects.{object_of}
use Rattle.kr_mean.specs.Problem.{DomainObject}
use Rattle.kr_space_layout.specs.Bounds.{bare}
use Rattle.kr_value.specs.declared.value.Value.{Value}
use Rattle.kr_report.specs.Texts.{objects_in}
use Rattle.kr_report_rows.specs.Parts.{entry_objects, new_in}
use Rattle.kr_report_rows.proofs.Fresh.{new_is}
use Rattle.kr_report_rows.proofs.objects.named_by.Goals as goal

pub returns-in-Ref : goal.returns-in-Ref
returns-in-Ref c =
    let before = flat_map (entry_objects (bare c.args.layout.now)) (take c.args.count c.args.structure.now) in
    c.where_first.ensures
    ∙ (sym (new_is before (object_of c.numbered-object.result) c.is_first.result (sym c.is_first.ensures))
    ∙ (ap (λ (o : DomainObject). new_in before (o ∷ [])) c.numbered-object.ensures
    ∙ ap (λ (v : Value). new_in before (objects_in (bare c.args.layout.now) v)) (sym c.in-Ref.is)))
