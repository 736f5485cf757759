use Rattle.std.proofs.Common.{◌≡◌, List, false}
use Rattle.kr_ast.specs.Arena.{Arena}
use Rattle.kr_classes_table.specs.Table.{is_below}
use Rattle.kr_classes_members.specs.Shown.{table_in}
use Rattle.kr_classes_members.specs.Kept.{AreMembers}
use Rattle.kr_code_bodies.proofs.Rows.{IsFront}
use Rattle.kr_code_bodies.proofs.instances.heirs.Given as goal

abbrev pub invariant-loop-column : goal.invariant-loop-column
invariant-loop-column l = (files : List Arena) → AreMembers files l.members → IsFront false (λ c b. b ≡ is_below (table_in files) c l.class) l.column l.row.items
