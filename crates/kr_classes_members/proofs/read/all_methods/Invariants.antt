use Rattle.std.proofs.Common.{◌≡◌, List, length, map, take, All}
use Rattle.std.specs.Prelude.{flat_map}
use Rattle.kr_ast.specs.Arena.{Arena}
use Rattle.kr_classes_members.specs.Shown.{IsMethod, method_shown, table_in}
use Rattle.kr_classes_members.specs.Kept.{AreMembers}
use Rattle.kr_classes_members.specs.Rosters.{AreFirst, methods_of_class}
use Rattle.kr_classes_members.proofs.read.all_methods.Given as goal

abbrev pub invariant-loop-class : goal.invariant-loop-class
invariant-loop-class l = record {
  count : length l.first.items ≡ l.class;
  stands : (files : List Arena) → AreMembers files l.members → All (IsMethod files) l.all.items;
  shown : (files : List Arena) → AreMembers files l.members → map (method_shown files) l.all.items ≡ flat_map methods_of_class (take l.class (table_in files).classes);
  first : (files : List Arena) → AreMembers files l.members → AreFirst methods_of_class (table_in files) l.first.items;
}
