use Rattle.std.proofs.Common.{ap, ◌∙◌, length, arith}
use Rattle.kr_classes_table.specs.Table.{is_instance}
use Rattle.kr_base.proofs.Added.{flat_all}
use Rattle.kr_classes_members.specs.Shown.{field_shown}
use Rattle.kr_classes.proofs.field_rules.instance_count.Goals as goal

pub returns : goal.returns
returns c = λ files h.
    c.loop-field.invariant.counted files
    ∙ ap length (flat_all is_instance (field_shown files) c.fields-field-items.result.now c.loop-field.field-index _ (omega arith) (c.fields-field-items.ensures.shown files h))
