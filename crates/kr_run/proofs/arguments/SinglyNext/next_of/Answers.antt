use Rattle.kr_run_frames.specs.Leads.{next_task}
use Rattle.kr_run.proofs.Machine.{none_left}
use Rattle.kr_run.proofs.arguments.SinglyNext.next_of.Goals as goal

pub returns-in-None : goal.returns-in-None
returns-in-None c = none_left c.args.code.now (next_task c.apply.result c.apply.new.task) c.apply.new.stack c.args.stack.now c.apply.new.world c.args.world.now c.args.goal c.args.nodes c.args.found.items c.in-None.ensures c.apply.ensures
