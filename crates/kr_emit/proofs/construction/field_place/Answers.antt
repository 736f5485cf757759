use Rattle.std.proofs.Common.{◌<◌, ap, ◌∙◌, false, length, arith}
use Rattle.kr_base.proofs.Added.{flat_all}
use Rattle.kr_classes.proofs.Each.{one_each}
use Rattle.kr_classes_members.specs.declared.fields.Field.{Field}
use Rattle.kr_classes_members.specs.Shown.{field_shown}
use Rattle.kr_classes_table.specs.Rules.{least}
use Rattle.kr_emit_meaning.specs.Buildable.{field_fault}
use Rattle.kr_emit.proofs.construction.field_place.Goals as goal

pub loop-field-preserved : goal.loop-field-preserved
loop-field-preserved c =
    let files = c.args.trees.now in
    let absent : Field = record { file = 0; class = 0; name = record { start = 0; end = 0 }; place = record { file = 0; line = 0; col = 0 }; is_static = false; is_final = false; declared = 0; initial = 0 } in
    let xs = c.fields-field-items.result.now in
    let i = c.loop-field.field-index in
    let l : i < length xs = c.loop-field-test.true in
    one_each 1 (λ f. field_fault (field_shown files f)) xs i absent c.loop-field.first c.place_of.result c.earlier-first.result l c.loop-field.invariant c.earlier-first.ensures.fault c.place_of.ensures

pub returns : goal.returns
returns c =
    let files = c.args.trees.now in
    c.loop-field.invariant
    ∙ ap least (flat_all field_fault (field_shown files) c.fields-field-items.result.now c.loop-field.field-index _ (omega arith) (c.fields-field-items.ensures.shown files c.requires))
