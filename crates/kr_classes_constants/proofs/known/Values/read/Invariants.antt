use Rattle.std.proofs.Common.{[], map, take}
use Rattle.std.specs.Prelude.{fold}
use Rattle.kr_classes_table.specs.Constants.{with_constant}
use Rattle.kr_classes_members.specs.Shown.{field_shown, table_in}
use Rattle.kr_classes_constants.specs.Kept.{AreValues}
use Rattle.kr_classes_constants.proofs.known.Values.read.Given as goal

abbrev pub invariant-loop-constant : goal.invariant-loop-constant
invariant-loop-constant l = AreValues (fold (with_constant (table_in l.trees)) [] (map (field_shown l.trees) (take l.constant-index l.constant-items))) l.values
