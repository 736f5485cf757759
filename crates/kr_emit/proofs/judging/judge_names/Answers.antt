use Rattle.std.proofs.Common.{sym}
use Rattle.kr_emit.proofs.Faults.{at_name}
use Rattle.kr_space_problem.specs.Posed.{posed}
use Rattle.kr_emit.proofs.judging.judge_names.Goals as goal

pub judge_elements-requires-clause-name : goal.judge_elements-requires-clause-name
judge_elements-requires-clause-name c = sym c.in-None.ensures

pub returns-in-Some-clause-refused : goal.returns-in-Some-clause-refused
returns-in-Some-clause-refused c = at_name (posed c.args.problem.now) c.in-Some.place (sym c.requires.construction) c.in-Some.ensures
