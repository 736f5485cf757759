use Rattle.std.proofs.Common.{map}
use Rattle.std.specs.Prelude.{flat_map, option_to_list, slice_get}
use Rattle.kr_ast.specs.Arena.{root}
use Rattle.kr_classes.proofs.Each.{of_both}
use Rattle.kr_classes_table.specs.Table.{headings_of}
use Rattle.kr_emit_meaning.specs.Buildable.{MOST_CLASSES, name_fault, number_fault}
use Rattle.kr_emit.proofs.class_name.class_name_place.Goals as goal

pub returns : goal.returns
returns c =
    let hs = headings_of (map root c.args.trees.now) in
    of_both 2 (flat_map name_fault hs) (flat_map number_fault (option_to_list (slice_get hs MOST_CLASSES))) c.name_place-name.result c.last_place-last.result c.earlier.result
    c.name_place-name.ensures (c.last_place-last.ensures c.args.trees.now c.requires) c.earlier.ensures.fault
