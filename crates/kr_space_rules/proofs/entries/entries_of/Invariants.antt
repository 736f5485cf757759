use Rattle.std.proofs.Common.{◌≡◌, ◌++◌, map, drop}
use Rattle.kr_ast.specs.Arena.{root}
use Rattle.kr_space_layout.specs.Items.{domain_of}
use Rattle.kr_classes_names.specs.Types.{Extends}
use Rattle.kr_space_meaning.specs.Bounds.{setting_of, values_with}
use Rattle.kr_space_rules.specs.Entries.{AreBounds}
use Rattle.kr_space_rules.proofs.entries.entries_of.Given as goal

abbrev pub invariant-loop-item : goal.invariant-loop-item
invariant-loop-item l = record {
  are : values_with (setting_of (map root l.trees) l.document) l.width l.items ≡ domain_of l.found.items ++ values_with (setting_of (map root l.trees) l.document) l.width (drop l.item-index l.items);
  bounds : AreBounds l.types l.document.arrays l.bounds (setting_of (map root l.trees) l.document).arrays;
  extends : Extends l.initial.types l.types;
}
