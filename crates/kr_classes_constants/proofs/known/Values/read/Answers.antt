use Rattle.std.proofs.Common.{ap, subst, ◌∙◌, ◌<◌, List, [], length, map, false, arith}
use Rattle.std.specs.Prelude.{fold}
use Rattle.std.proofs.lemmas.List.{take_all}
use Rattle.kr_classes_table.specs.Constants.{Known, with_constant, values_of}
use Rattle.kr_classes_members.specs.declared.fields.Field.{Field}
use Rattle.kr_classes_members.specs.Shown.{field_shown, table_in}
use Rattle.kr_classes_constants.specs.Kept.{AreValues}
use Rattle.kr_classes_constants.proofs.Listed.{fold_step}
use Rattle.kr_classes_constants.proofs.known.Values.read.Goals as goal

pub loop-constant-preserved : goal.loop-constant-preserved
loop-constant-preserved c =
    let absent : Field = record { file = 0; class = 0; name = record { start = 0; end = 0 }; place = record { file = 0; line = 0; col = 0 }; is_static = false; is_final = false; declared = 0; initial = 0 } in
    let files = c.args.trees.now in
    let xs = c.deref-constant-items.result.now in
    let i = c.loop-constant.constant-index in
    let l : i < length xs = c.loop-constant-test.true in
    subst (λ (ks : List Known). AreValues ks c.add_constant.new.values) (fold_step (with_constant (table_in files)) (field_shown files) [] xs i absent l)
    (c.in_ok-add_constant.ensures _ c.loop-constant.invariant)

pub returns : goal.returns
unfolding values_of
returns c =
    let files = c.args.trees.now in
    let xs = c.deref-constant-items.result.now in
    subst (λ (ks : List Known). AreValues ks c.loop-constant.values)
    (ap (λ fs. fold (with_constant (table_in files)) [] (map (field_shown files) fs)) (take_all c.loop-constant.constant-index xs (omega arith) ∙ c.deref-constant-items.ensures.value)
    ∙ ap (fold (with_constant (table_in files)) []) (c.in_ok-constants.ensures.shown files c.requires.members))
    c.loop-constant.invariant
