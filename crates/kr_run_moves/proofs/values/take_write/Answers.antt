-- Each of these parts comes first, and then its frame.
use Rattle.kr_run_moves.proofs.values.take_write.Goals as goal

pub returns-in-FieldOf : goal.returns-in-FieldOf
returns-in-FieldOf c = rw c.in-FieldOf.is (c.then_write.ensures c.args.code.now c.args.world.now)

pub returns-in-ItemOf : goal.returns-in-ItemOf
returns-in-ItemOf c = rw c.in-ItemOf.is (c.then_write-in-ItemOf.ensures c.args.code.now c.args.world.now)

pub returns-in-ItemAt : goal.returns-in-ItemAt
returns-in-ItemAt c = rw c.in-ItemAt.is (c.then_write-in-ItemAt.ensures c.args.code.now c.args.world.now)

pub returns-in-AlterItemOf : goal.returns-in-AlterItemOf
returns-in-AlterItemOf c = rw c.in-AlterItemOf.is (c.then_write-in-AlterItemOf.ensures c.args.code.now c.args.world.now)
