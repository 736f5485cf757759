use Rattle.std.proofs.Common.{Some}
use Rattle.kr_classes_table.specs.Types.{int_type, long_type, BooleanType, ClassType}
use Rattle.kr_space_names.proofs.written.word.Goals as goal

pub returns-then-eq-clause-some : goal.returns-then-eq-clause-some
returns-then-eq-clause-some c = (Some int_type, c.int.ensures)

pub returns-then-eq-2-clause-some : goal.returns-then-eq-2-clause-some
returns-then-eq-2-clause-some c = (Some long_type, c.long.ensures)

pub returns-then-eq-3-clause-some : goal.returns-then-eq-3-clause-some
returns-then-eq-3-clause-some c = (Some BooleanType, c.boolean.ensures)

pub returns-in_ok-number-in-Some-clause-some : goal.returns-in_ok-number-in-Some-clause-some
returns-in_ok-number-in-Some-clause-some c = (Some (ClassType c.in-Some.class), c.in_ok-number-in-Some.ensures.number)
