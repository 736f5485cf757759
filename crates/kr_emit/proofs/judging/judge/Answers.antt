use Rattle.std.proofs.Common.{sym}
use Rattle.kr_emit.proofs.Faults.{at_construction}
use Rattle.kr_space_problem.specs.Posed.{posed}
use Rattle.kr_emit.proofs.judging.judge.Goals as goal

pub judge_names-requires-clause-construction : goal.judge_names-requires-clause-construction
judge_names-requires-clause-construction c = sym (rw c.in-Ok-None.field-0-is at c.in-Ok-None.ensures)

pub returns-in-Ok-Some-clause-refused : goal.returns-in-Ok-Some-clause-refused
returns-in-Ok-Some-clause-refused c = at_construction (posed c.args.problem.now) c.in-Ok-Some.place (rw c.in-Ok-Some.field-0-is at c.in-Ok-Some.ensures)
