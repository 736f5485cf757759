use Rattle.std.proofs.Common.{◌<◌, length, get_or, arith}
use Rattle.std.specs.Prelude.{None}
use Rattle.kr_classes_table.specs.Rules.{C3}
use Rattle.kr_classes_names.specs.declared.headings.Heading.{Heading}
use Rattle.kr_classes.specs.Faults.{no_class}
use Rattle.kr_classes_members.specs.Shown.{table_in}
use Rattle.kr_classes.proofs.ByClass.{more, all_in, own_ancestor, same_item}
use Rattle.kr_classes.proofs.name_rules.first_own_ancestor.Goals as goal

pub loop-class-preserved : goal.loop-class-preserved
loop-class-preserved c =
    let xs = c.headings-heading-items.result.now in
    let i = c.loop-class.class in
    let l : i < length xs = c.loop-class-test.true in
    let absent : Heading = record { file = 0; name = record { start = 0; end = 0 }; place = record { file = 0; line = 0; col = 0 }; outer = None; extended = 0; members = 0 } in
    let x = get_or xs i absent in
    let place = c.own_ancestor_place-place.result in
    more 3 C3 c.args.heads.now xs c.args.supers.now i no_class c.loop-class.first place c.earlier-first.result c.headings-heading-items.ensures.shown l c.loop-class.invariant c.earlier-first.ensures.fault
    (λ files h a. own_ancestor files xs x i no_class place (c.headings-heading-items.ensures.shown files h) l (same_item xs i absent x l) (c.own_ancestor_place-place.ensures (table_in files) a))

pub returns : goal.returns
returns c = λ files h a.
    all_in 3 C3 files c.headings-heading-items.result.now c.loop-class.class c.loop-class.first (c.headings-heading-items.ensures.shown files h) (omega arith) (c.loop-class.invariant files h a)
