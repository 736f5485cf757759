use Rattle.std.proofs.Common.{◌≡◌, ◌<◌, length, get_or, arith}
use Rattle.std.specs.Prelude.{None}
use Rattle.kr_classes_table.specs.Rules.{C2}
use Rattle.kr_classes_names.specs.declared.headings.Heading.{Heading}
use Rattle.kr_classes.specs.Faults.{no_class}
use Rattle.kr_classes.proofs.ByClass.{more_in, all_in, unknown, same_item}
use Rattle.kr_classes.proofs.name_rules.first_unknown_superclass.Goals as goal

pub loop-class-preserved : goal.loop-class-preserved
loop-class-preserved c =
    let files = c.args.trees.now in
    let xs = c.headings-heading-items.result.now in
    let shown = c.headings-heading-items.ensures.shown files c.requires.heads in
    let i = c.loop-class.class in
    let l : i < length xs = c.loop-class-test.true in
    let absent : Heading = record { file = 0; name = record { start = 0; end = 0 }; place = record { file = 0; line = 0; col = 0 }; outer = None; extended = 0; members = 0 } in
    let x = get_or xs i absent in
    let place = c.unknown_place-place.result in
    let n : length c.args.supers.now ≡ length xs = omega (arith, c.requires.count, c.headings-heading-items.ensures.count) in
    more_in 2 C2 files xs i no_class c.loop-class.first place c.earlier-first.result shown l c.loop-class.invariant c.earlier-first.ensures.fault
    (unknown files xs c.args.supers.now x i no_class place c.extended_place-extended.result shown c.requires.supers l n (same_item xs i absent x l) c.extended_place-extended.ensures c.unknown_place-place.ensures)

pub returns : goal.returns
returns c =
    let files = c.args.trees.now in
    all_in 2 C2 files c.headings-heading-items.result.now c.loop-class.class c.loop-class.first (c.headings-heading-items.ensures.shown files c.requires.heads) (omega arith) c.loop-class.invariant
