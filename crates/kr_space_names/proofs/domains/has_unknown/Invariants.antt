use Rattle.std.proofs.Common.{◌≡◌, drop}
use Rattle.std.specs.Prelude.{map}
use Rattle.kr_ast.specs.Arena.{root}
use Rattle.kr_classes_table.specs.Table.{headings_of}
use Rattle.kr_classes_names.specs.Types.{Extends}
use Rattle.std.specs.List.{list_any}
use Rattle.kr_space_meaning.specs.Faults.{names_unknown}
use Rattle.kr_space_names.proofs.domains.has_unknown.Given as goal

abbrev pub invariant-loop-item : goal.invariant-loop-item
invariant-loop-item l = record {
  is : list_any (names_unknown (headings_of (map root l.trees)) l.document) l.items ≡ list_any (names_unknown (headings_of (map root l.trees)) l.document) (drop l.item-index l.items);
  extends : Extends l.initial.types l.types;
}
