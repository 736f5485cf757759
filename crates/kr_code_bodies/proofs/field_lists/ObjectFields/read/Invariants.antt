use Rattle.std.proofs.Common.{List, [], map}
use Rattle.kr_ast.specs.Arena.{Arena}
use Rattle.kr_classes_members.specs.Kept.{AreMembers}
use Rattle.kr_code.specs.Tables.{row_items}
use Rattle.kr_code_bodies.specs.Tabled.{AreFieldsOf}
use Rattle.kr_code_bodies.proofs.Rows.{IsFront}
use Rattle.kr_code_bodies.proofs.field_lists.ObjectFields.read.Given as goal

abbrev pub invariant-loop-class : goal.invariant-loop-class
invariant-loop-class l = (files : List Arena) → AreMembers files l.members → IsFront [] (AreFieldsOf files) l.class (map row_items l.classes.items)
