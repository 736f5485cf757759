use Rattle.std.proofs.Common.{List, false}
use Rattle.kr_ast.specs.Arena.{Arena}
use Rattle.kr_classes_table.specs.Types.{JavaType}
use Rattle.kr_classes_members.specs.Kept.{AreMembers}
use Rattle.kr_classes_names.specs.Types.{type_at}
use Rattle.kr_code_bodies.specs.Tabled.{IsInstance}
use Rattle.kr_code_bodies.proofs.Rows.{AreFront}
use Rattle.kr_code_bodies.proofs.instances.instances.Given as goal

abbrev pub invariant-loop-number : goal.invariant-loop-number
invariant-loop-number l = (files : List Arena) (arrays : List JavaType) → AreMembers files l.members → AreFront false (λ k. IsInstance files arrays (type_at l.types k)) l.number l.rows.items
