use Rattle.std.proofs.Common.{sym}
use Rattle.std.specs.Prelude.{Some, None}
use Rattle.kr_emit.proofs.Faults.{at_elements}
use Rattle.kr_space_problem.specs.Posed.{posed}
use Rattle.kr_emit.proofs.judging.judge_elements.Goals as goal

pub returns-in-Ok-None-clause-built : goal.returns-in-Ok-None-clause-built
returns-in-Ok-None-clause-built c = at_elements (posed c.args.problem.now) None (sym c.requires.construction) (sym c.requires.name) (rw c.in-Ok-None.field-0-is at c.in-Ok-None.ensures)

pub returns-in-Ok-Some-clause-refused : goal.returns-in-Ok-Some-clause-refused
returns-in-Ok-Some-clause-refused c = at_elements (posed c.args.problem.now) (Some c.in-Ok-Some.fault) (sym c.requires.construction) (sym c.requires.name) (rw c.in-Ok-Some.field-0-is at c.in-Ok-Some.ensures)
