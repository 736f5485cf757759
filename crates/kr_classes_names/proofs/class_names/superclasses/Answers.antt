use Rattle.std.proofs.Common.{◌≡◌, sym, ap, ◌∙◌, map, take, arith}
use Rattle.std.proofs.lemmas.List.{take_all}
use Rattle.kr_ast.specs.Arena.{root}
use Rattle.kr_classes_table.specs.Table.{headings_of}
use Rattle.kr_classes_names.specs.Shown.{superclass_in, superclass_shown, heading_shown}
use Rattle.kr_classes_names.proofs.Walks.{map_map}
use Rattle.kr_classes_names.proofs.class_names.superclasses.Goals as goal

pub returns : goal.returns
returns c =
    let files = c.args.trees.now in
    let hs = headings_of (map root files) in
    let kept = c.args.heads.now.headings.items in
    let all : map (superclass_shown files) kept ≡ map (superclass_in hs) hs = sym (map_map (superclass_in hs) (heading_shown files) kept) ∙ ap (map (superclass_in hs)) c.requires.shown in
    let slice = ap (λ xs. map (superclass_shown files) (take c.loop-heading.heading-index xs)) c.deref-heading-items.ensures.value in
    let taken = ap (map (superclass_shown files)) (take_all c.loop-heading.heading-index kept (omega arith)) in
    let inv = c.loop-heading.invariant in
    inv ∙ slice ∙ taken ∙ all
