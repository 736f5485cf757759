use Rattle.std.proofs.Common.{subst}
use Rattle.kr_judge_prepared.specs.Tested.{IsCodeFor}
use Rattle.kr_judge_prepared.specs.Preparing.{IsRunBy, Ready}
use Rattle.kr_space_problem.specs.Posed.{posed}
use Rattle.kr_judge_prepared.proofs.Coded.{run_by}
use Rattle.kr_judge_prepared.proofs.prepared.Prepared.predicate.Goals as goal

pub returns-clause-run : goal.returns-clause-run
returns-clause-run c = subst (λ (p : Ready). IsRunBy (posed p.problem) c.self.inside.code.predicate) c.self.view_is (run_by (posed c.self.inside.accepted) c.self.inside.code c.self.invariant.made)

pub returns-clause-tested : goal.returns-clause-tested
returns-clause-tested c = subst (λ (p : Ready). IsCodeFor (posed p.problem) (record { predicate = c.self.inside.code.predicate; contract = p.contract })) c.self.view_is c.self.invariant.made
