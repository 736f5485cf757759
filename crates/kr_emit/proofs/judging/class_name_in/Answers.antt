use Rattle.std.proofs.Common.{◌++◌, ◌∙◌, List, ap, map, subst, sym}
use Rattle.std.specs.Prelude.{flat_map, option_to_list, slice_get}
use Rattle.kr_ast.specs.Arena.{Arena, root}
use Rattle.kr_classes_names.specs.Shown.{AreHeads}
use Rattle.kr_classes_table.specs.Rules.{least}
use Rattle.kr_classes_table.specs.Table.{headings_of, table_of}
use Rattle.kr_emit_meaning.specs.Buildable.{MOST_CLASSES, name_fault, number_fault}
use Rattle.kr_emit.proofs.judging.class_name_in.Goals as goal

pub class_name_place-requires : goal.class_name_place-requires
class_name_place-requires c = subst (λ (fs : List Arena). AreHeads fs c.args.problem.now.program.table.heads) (sym c.as_slice.ensures.value) c.requires.program.table.table.heads

pub returns : goal.returns
unfolding table_of
returns c =
    c.class_name_place.ensures
    ∙ ap (λ (fs : List Arena). least (flat_map name_fault (headings_of (map root fs)) ++ flat_map number_fault (option_to_list (slice_get (headings_of (map root fs)) MOST_CLASSES)))) c.as_slice.ensures.value
