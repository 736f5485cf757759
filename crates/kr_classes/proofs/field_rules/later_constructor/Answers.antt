use Rattle.std.proofs.Common.{◌<◌, ◌-◌, ap, ◌∙◌, true, drop, length, map, take, arith}
use Rattle.std.proofs.lemmas.List.{take_all}
use Rattle.kr_classes_table.specs.Table as table
use Rattle.kr_classes_table.specs.Rules.{break_if, least}
use Rattle.kr_base.proofs.Added.{flat_all}
use Rattle.kr_classes_members.specs.declared.methods.Constructor.{Constructor}
use Rattle.kr_classes_members.specs.Shown.{constructor_shown}
use Rattle.kr_classes.proofs.Each.{behind_first, length_behind, one_each}
use Rattle.kr_classes.proofs.field_rules.later_constructor.Goals as goal

pub loop-constructor-preserved : goal.loop-constructor-preserved
loop-constructor-preserved c =
    let absent : Constructor = record { file = 0; class = 0; place = record { file = 0; line = 0; col = 0 }; parameters = 0; super_call = 0; body = 0 } in
    let ks = c.constructors-constructors.result.now in
    let xs = take (length ks - 1) (drop 1 ks) in
    let i = c.loop-constructor.constructor-index in
    let l : i < length xs = c.loop-constructor-test.true in
    one_each 4 (λ k. break_if true 4 k.place) xs i absent c.loop-constructor.first c.if_broken.result c.earlier-first.result l c.loop-constructor.invariant c.earlier-first.ensures.fault (c.if_broken.ensures 4)

pub returns : goal.returns
returns c = λ files h.
    let ks = c.constructors-constructors.result.now in
    let xs = take (length ks - 1) (drop 1 ks) in
    let g = λ (k : table.Constructor). break_if true 4 k.place in
    c.loop-constructor.invariant
    ∙ ap least (flat_all g (constructor_shown files) xs c.loop-constructor.constructor-index _ (omega arith)
    (ap (map (constructor_shown files)) (take_all (length ks - 1) (drop 1 ks) (length_behind ks)) ∙ behind_first (constructor_shown files) ks ∙ ap (drop 1) (c.constructors-constructors.ensures.shown files h)))
