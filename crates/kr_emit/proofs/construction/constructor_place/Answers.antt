use Rattle.std.proofs.Common.{◌<◌, ap, ◌∙◌, true, get_or, length, arith, refl}
use Rattle.std.specs.Prelude.{Some}
use Rattle.kr_base.proofs.Added.{flat_all}
use Rattle.kr_classes.proofs.Each.{one_each}
use Rattle.kr_classes_members.specs.declared.methods.Constructor.{Constructor}
use Rattle.kr_classes_members.specs.Shown.{constructor_shown}
use Rattle.kr_classes_table.specs.Rules.{break_if, least}
use Rattle.kr_emit_meaning.specs.Buildable.{constructor_fault}
use Rattle.kr_emit.proofs.construction.constructor_place.Goals as goal

pub loop-constructor-preserved : goal.loop-constructor-preserved
loop-constructor-preserved c =
    let absent : Constructor = record { file = 0; class = 0; place = record { file = 0; line = 0; col = 0 }; parameters = 0; super_call = 0; body = 0 } in
    let xs = c.constructors-constructor-items.result.now in
    let i = c.loop-constructor.constructor-index in
    let l : i < length xs = c.loop-constructor-test.true in
    one_each 1 (λ k. break_if true 1 k.place) xs i absent c.loop-constructor.first (Some (get_or xs i absent).place) c.earlier-first.result l c.loop-constructor.invariant c.earlier-first.ensures.fault refl

pub returns : goal.returns
returns c = λ files h.
    c.loop-constructor.invariant
    ∙ ap least (flat_all constructor_fault (constructor_shown files) c.constructors-constructor-items.result.now c.loop-constructor.constructor-index _ (omega arith) (c.constructors-constructor-items.ensures.shown files h))
