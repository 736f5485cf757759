use Rattle.std.proofs.Common.{ap, ◌∙◌, length}
use Rattle.kr_classes_table.specs.Table.{field_on, line_within}
use Rattle.kr_classes_members.specs.Shown.{table_in}
use Rattle.kr_classes_members.proofs.members.Members.inherited_field.Goals as goal

pub returns-clause-shown : goal.returns-clause-shown
returns-clause-shown c = λ files h.
    let t = table_in files in
    c.field_upwards.ensures.shown files h
    ∙ ap (λ n. field_on t (line_within n t c.superclass.result) c.args.name.now) (c.len.ensures.all files h)
    ∙ ap (λ o. field_on t (line_within (length t.classes) t o) c.args.name.now) (c.superclass.ensures files h)
