use Rattle.std.proofs.Common.{List}
use Rattle.kr_ast.specs.Arena.{Arena}
use Rattle.kr_classes_members.specs.Kept.{AreMembers}
use Rattle.kr_judge_prepared.specs.Fields.{rows_of}
use Rattle.kr_judge_prepared.proofs.Rows.{AreFirstFields}
use Rattle.kr_judge_prepared.proofs.fields.fields_before.Given as goal

abbrev pub invariant-loop-class : goal.invariant-loop-class
invariant-loop-class l = (files : List Arena) → AreMembers files l.members → AreFirstFields files l.class (rows_of l.rows.items)
