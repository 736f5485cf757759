use Rattle.kr_code.specs.declared.expression.Expression.TheVariants as expressions
use Rattle.kr_run_frames.specs.Leads.{next_task}
use Rattle.kr_run_moves.proofs.Going.{node_halts, node_then}
use Rattle.kr_run_moves.proofs.reads.read_field.Goals as goal

pub returns-in-Ok : goal.returns-in-Ok
returns-in-Ok c = node_then c.args.code.now (next_task c.enter_field.result c.enter_field.new.task) c.args.stack.now c.enter_field.new.stack c.enter_field.new.world c.tick.new.world c.args.world.now c.args.node (expressions.FieldOf c.args.object c.args.name) _ c.requires c.in-Ok.ensures c.enter_field.ensures

pub returns-in-Err : goal.returns-in-Err
returns-in-Err c = node_halts c.args.code.now c.in-Err.halt c.args.stack.now c.tick.new.world c.args.world.now c.args.node c.in-Err.ensures
