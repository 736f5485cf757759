use Rattle.std.proofs.Common.{◌≡◌, List, map, take, All}
use Rattle.std.specs.Prelude.{flat_map}
use Rattle.kr_ast.specs.Arena.{Arena}
use Rattle.kr_classes_table.specs.Constants.{constants_in}
use Rattle.kr_classes_members.specs.Shown.{IsField, field_shown, table_in}
use Rattle.kr_classes_members.specs.Kept.{AreMembers}
use Rattle.kr_classes_constants.proofs.order.all_constants.Given as goal

abbrev pub invariant-loop-class : goal.invariant-loop-class
invariant-loop-class l = record {
  stands : (files : List Arena) → AreMembers files l.members → All (IsField files) l.constants.items;
  shown : (files : List Arena) → AreMembers files l.members → map (field_shown files) l.constants.items ≡ flat_map constants_in (take l.class (table_in files).classes);
}
