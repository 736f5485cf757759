use Rattle.std.proofs.Common.{◌<◌, ap, ◌∙◌, length, arith}
use Rattle.std.specs.Prelude.{None}
use Rattle.kr_base.proofs.Added.{flat_all}
use Rattle.kr_classes.proofs.Each.{one_each}
use Rattle.kr_classes_names.specs.declared.headings.Heading.{Heading}
use Rattle.kr_classes_names.specs.Shown.{heading_shown}
use Rattle.kr_classes_table.specs.Rules.{least}
use Rattle.kr_emit_meaning.specs.Buildable.{name_fault}
use Rattle.kr_emit.proofs.class_name.name_place.Goals as goal

pub loop-heading-preserved : goal.loop-heading-preserved
loop-heading-preserved c =
    let files = c.args.trees.now in
    let absent : Heading = record { file = 0; name = record { start = 0; end = 0 }; place = record { file = 0; line = 0; col = 0 }; outer = None; extended = 0; members = 0 } in
    let xs = c.headings-heading-items.result.now in
    let i = c.loop-heading.heading-index in
    let l : i < length xs = c.loop-heading-test.true in
    one_each 2 (λ h. name_fault (heading_shown files h)) xs i absent c.loop-heading.first c.place_of.result c.earlier-first.result l c.loop-heading.invariant c.earlier-first.ensures.fault c.place_of.ensures

pub returns : goal.returns
returns c =
    let files = c.args.trees.now in
    c.loop-heading.invariant
    ∙ ap least (flat_all name_fault (heading_shown files) c.headings-heading-items.result.now c.loop-heading.heading-index _ (omega arith) (c.headings-heading-items.ensures.shown files c.requires))
