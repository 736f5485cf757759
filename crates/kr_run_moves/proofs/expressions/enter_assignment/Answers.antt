-- Each of these parts comes first, and then its frame.
use Rattle.kr_run_moves.proofs.expressions.enter_assignment.Goals as goal

pub returns-in-Local : goal.returns-in-Local
returns-in-Local c = rw c.in-Local.is c.assign_local.ensures

pub returns-in-Own : goal.returns-in-Own
returns-in-Own c = rw c.in-Own.is (c.then_write.ensures c.args.code.now c.args.world.now)

pub returns-in-Of : goal.returns-in-Of
returns-in-Of c = rw c.in-Of.is (c.then_write-in-Of.ensures c.args.code.now c.args.world.now)

pub returns-in-Element : goal.returns-in-Element
returns-in-Element c = rw c.in-Element.is (c.then_write-in-Element.ensures c.args.code.now c.args.world.now)
