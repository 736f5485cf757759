use Rattle.std.proofs.Common.{◌∙◌, ap, subst}
use Rattle.kr_judge_prepared.specs.Preparing.{Ready}
use Rattle.kr_space_problem.specs.Posed.{posed}
use Rattle.kr_judge_prepared.specs.Accepting.{IsAccepted}
use Rattle.kr_judge_prepared.proofs.prepared.Prepared.laws.Goals as goal

pub returns-clause-accepted : goal.returns-clause-accepted
returns-clause-accepted c = subst IsAccepted (c.problem.ensures.same ∙ ap (λ (r : Ready). r.problem) c.self.view_is) c.problem.ensures.accepted

pub returns-clause-lawful : goal.returns-clause-lawful
returns-clause-lawful c =
    let accepted = subst IsAccepted (c.problem.ensures.same ∙ ap (λ (r : Ready). r.problem) c.self.view_is) c.problem.ensures.accepted in
    c.lawful_law.ensures (posed c.args.self.now.problem) accepted.well_formed accepted.pure
