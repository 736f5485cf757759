use Rattle.std.proofs.Common.{◌<◌, sym, ap, ◌∙◌, false, length, get_or, arith}
use Rattle.kr_classes_table.specs.Table.{is_instance}
use Rattle.kr_classes_table.specs.Rules.{least, past}
use Rattle.kr_base.proofs.Added.{flat_all}
use Rattle.kr_classes_members.specs.declared.fields.Field.{Field}
use Rattle.kr_classes_members.specs.Shown.{field_shown}
use Rattle.kr_classes.proofs.Counts.{counted_more, one_length, past_each}
use Rattle.kr_classes.proofs.field_rules.extra_field.Goals as goal

pub loop-field-preserved : goal.loop-field-preserved
loop-field-preserved c =
    let absent : Field = record { file = 0; class = 0; name = record { start = 0; end = 0 }; place = record { file = 0; line = 0; col = 0 }; is_static = false; is_final = false; declared = 0; initial = 0 } in
    let xs = c.fields-field-items.result.now in
    let i = c.loop-field.field-index in
    let l : i < length xs = c.loop-field-test.true in
    let x = get_or xs i absent in
    record {
      small = omega (arith, c.loop-field.invariant.small, c.counted-seen.ensures.small);
      counted = λ files. counted_more (λ f. is_instance (field_shown files f)) xs i absent c.loop-field.seen c.counted-seen.result l (c.loop-field.invariant.counted files) (c.counted-seen.ensures.value ∙ sym (one_length (field_shown files x)));
      so = λ files. past_each (field_shown files) c.args.room c.loop-field.seen xs i absent c.is_past.result c.loop-field.first c.if_broken.result c.earlier-first.result l (c.loop-field.invariant.counted files) (c.loop-field.invariant.so files)
          c.earlier-first.ensures.fault (c.if_broken.ensures 8) c.is_past.ensures;
    }

pub returns : goal.returns
returns c = λ files h.
    c.loop-field.invariant.so files
    ∙ ap (λ fs. least (past c.args.room fs)) (flat_all is_instance (field_shown files) c.fields-field-items.result.now c.loop-field.field-index _ (omega arith) (c.fields-field-items.ensures.shown files h))
