use Rattle.kr_run_method.proofs.Programs.{in_programs}
use Rattle.kr_run_method.proofs.Unstuck.{in_typed_programs}
use Rattle.kr_run_method.proofs.run.execute.Goals as goal

pub returns-clause-executes : goal.returns-clause-executes
returns-clause-executes c = in_programs c.args.code.now c.args.method c.args.values.now c.args.heap c.args.fuel c.run_method.result c.run_method.ensures

pub returns-clause-unstuck : goal.returns-clause-unstuck
returns-clause-unstuck c = in_typed_programs c.args.code.now c.args.method c.args.values.now c.args.heap c.args.fuel c.run_method.result (in_programs c.args.code.now c.args.method c.args.values.now c.args.heap c.args.fuel c.run_method.result c.run_method.ensures)
