use Rattle.std.proofs.Common.{refl, ap, ◌∙◌, ◌<◌, [], length, map, arith}
use Rattle.std.specs.Prelude.{flat_map, reverse}
use Rattle.std.proofs.lemmas.List.{take_all}
use Rattle.kr_classes_table.specs.Table.{is_instance, own_fields}
use Rattle.kr_base.proofs.Added.{flat_step}
use Rattle.kr_classes_members.specs.Shown.{field_shown, table_in}
use Rattle.kr_classes_members.proofs.Classes.{flat_flat}
use Rattle.kr_classes_members.proofs.members.Members.fields_of.Goals as goal

pub loop-here-preserved : goal.loop-here-preserved
loop-here-preserved c =
    let xs = c.deref-here-items.result.now in
    let i = c.loop-here.here-index in
    let l : i < length xs = c.loop-here-test.true in
    record {
      stands = λ files h. c.in_ok-add_instance_fields.ensures.stands files h (c.loop-here.invariant.stands files h);
      shown = λ files h. c.in_ok-add_instance_fields.ensures.shown files h
          ∙ flat_step (λ k. flat_map is_instance (own_fields (table_in files) k)) [] (map (field_shown files) c.loop-here.fields.items) _ xs i 0 l (c.loop-here.invariant.shown files h) refl;
    }

pub returns-clause-shown : goal.returns-clause-shown
returns-clause-shown c = λ files h.
    let t = table_in files in
    let xs = c.deref-here-items.result.now in
    c.loop-here.invariant.shown files h
    ∙ ap (flat_map (λ k. flat_map is_instance (own_fields t k))) (take_all c.loop-here.here-index xs (omega arith) ∙ c.deref-here-items.ensures.value ∙ c.reverse.ensures.items ∙ ap reverse (c.in_ok-line.ensures files h))
    ∙ flat_flat is_instance (own_fields t) _
