-- Each of these parts comes first, and then its frame.
use Rattle.kr_run_moves.proofs.values.take_value.Goals as goal

pub returns-in-ElementOf : goal.returns-in-ElementOf
returns-in-ElementOf c = rw c.in-ElementOf.is c.take_array.ensures

pub returns-in-Left : goal.returns-in-Left
returns-in-Left c = rw c.in-Left.is c.take_left.ensures

pub returns-in-Unary : goal.returns-in-Unary
returns-in-Unary c = rw c.in-Unary.is c.operate_alone.ensures

pub returns-in-Right : goal.returns-in-Right
returns-in-Right c = rw c.in-Right.is c.operate.ensures
