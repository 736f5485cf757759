use Rattle.std.proofs.Common.{◌≡◌, ◌<◌, ap, ◌∙◌, length, get_or, arith}
use Rattle.std.specs.Prelude.{None}
use Rattle.kr_ast.specs.Arena.{Arena, name_in}
use Rattle.kr_classes_names.specs.declared.headings.Heading.{Heading}
use Rattle.kr_ast.specs.Files.{file_at}
use Rattle.kr_classes.specs.Faults.{no_class, repeats}
use Rattle.kr_classes.proofs.ByClass.{more_in, all_in, same_item}
use Rattle.kr_classes.proofs.Repeated.{repeated_here, first_repeated}
use Rattle.kr_classes.proofs.name_rules.first_repeated_name.Goals as goal

pub loop-class-preserved : goal.loop-class-preserved
loop-class-preserved c =
    let files = c.args.trees.now in
    let xs = c.headings-heading-items.result.now in
    let shown = c.headings-heading-items.ensures.shown files c.requires in
    let i = c.loop-class.class in
    let l : i < length xs = c.loop-class-test.true in
    let absent : Heading = record { file = 0; name = record { start = 0; end = 0 }; place = record { file = 0; line = 0; col = 0 }; outer = None; extended = 0; members = 0 } in
    let x = get_or xs i absent in
    let name : c.name-name.result.now ≡ name_in (file_at files x.file).text x.name = c.name-name.ensures ∙ ap (λ (a : Arena). name_in a.text x.name) c.tree_of.ensures in
    let place = c.repeated_place-place.result in
    more_in 1 repeats files xs i no_class c.loop-class.first place c.earlier-first.result shown l c.loop-class.invariant c.earlier-first.ensures.fault
    (repeated_here files xs x i no_class place c.name-name.result.now shown l (same_item xs i absent x l) name (c.repeated_place-place.ensures files c.requires))

pub returns : goal.returns
returns c =
    let files = c.args.trees.now in
    all_in 1 repeats files c.headings-heading-items.result.now c.loop-class.class c.loop-class.first (c.headings-heading-items.ensures.shown files c.requires) (omega arith) c.loop-class.invariant
    ∙ first_repeated files
