use Rattle.std.proofs.Common.{sym, ap, ◌∙◌, ◌<◌, ◌++◌, length, map, false, arith}
use Rattle.std.specs.Prelude.{flat_map}
use Rattle.std.proofs.lemmas.List.{take_all}
use Rattle.std.proofs.lemmas.List.Folds.{flat_map-map}
use Rattle.kr_classes_table.specs.Table.{is_instance}
use Rattle.kr_classes_members.specs.declared.fields.Field.{Field}
use Rattle.kr_classes_members.specs.Shown.{IsField, field_shown}
use Rattle.kr_base.proofs.Added.{found_shown, found_stands}
use Rattle.kr_classes_members.proofs.members.Members.add_instance_fields.Goals as goal

pub loop-field-preserved : goal.loop-field-preserved
loop-field-preserved c =
    let absent : Field = record { file = 0; class = 0; name = record { start = 0; end = 0 }; place = record { file = 0; line = 0; col = 0 }; is_static = false; is_final = false; declared = 0; initial = 0 } in
    let xs = c.fields-field-items.result.now in
    let i = c.loop-field.field-index in
    let l : i < length xs = c.loop-field-test.true in
    let kept = c.loop-field.fields.items in
    let found = c.instance_only.result in
    record {
      stands = λ files h k. found_stands (IsField files) kept _ found c.in_ok-add_found.ensures (c.loop-field.invariant.stands files h k) (c.instance_only.ensures.stands files (c.fields-field-items.ensures.stands files h i absent l));
      shown = λ files. found_shown (field_shown files) (λ f. is_instance (field_shown files f)) (map (field_shown files) c.args.fields.now.items) kept _ found xs i absent l c.in_ok-add_found.ensures
          (c.loop-field.invariant.shown files) (c.instance_only.ensures.shown files);
    }

pub returns-clause-shown : goal.returns-clause-shown
returns-clause-shown c = λ files h.
    let xs = c.fields-field-items.result.now in
    let before = map (field_shown files) c.args.fields.now.items in
    c.loop-field.invariant.shown files
    ∙ ap (λ ys. before ++ flat_map (λ f. is_instance (field_shown files f)) ys) (take_all c.loop-field.field-index xs (omega arith))
    ∙ ap (λ fs. before ++ fs) (sym (flat_map-map is_instance (field_shown files) xs) ∙ ap (flat_map is_instance) (c.fields-field-items.ensures.shown files h))
