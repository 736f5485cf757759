use Rattle.std.proofs.Common.{map, take}
use Rattle.kr_ast.specs.Arena.{root}
use Rattle.kr_classes_table.specs.Table.{headings_of}
use Rattle.kr_classes_names.specs.Types.{Extends}
use Rattle.kr_space_meaning.specs.Bounds.{bounded}
use Rattle.kr_space_rules.specs.Entries.{AreBounds}
use Rattle.kr_space_rules.proofs.bounds.bounds_of.Given as goal

abbrev pub invariant-loop-at : goal.invariant-loop-at
invariant-loop-at l = record {
  bounds : AreBounds l.types l.all l.bounds.items (bounded (headings_of (map root l.trees)) (take l.at l.all));
  extends : Extends l.initial.types l.types;
}
