use Rattle.std.proofs.Common.{◌≡◌, ap, ◌∙◌, subst}
use Rattle.std.specs.Prelude.{is_some}
use Rattle.kr_mean.specs.Runs.{tested_method}
use Rattle.kr_judge_prepared.specs.Preparing.{Ready}
use Rattle.kr_space_problem.specs.Posed.{posed}
use Rattle.kr_judge_prepared.proofs.Coded.{tested_by}
use Rattle.kr_judge_prepared.proofs.prepared.Prepared.contract.Goals as goal

pub returns-clause-same : goal.returns-clause-same
returns-clause-same c = c.as_ref.ensures.value ∙ ap (λ (p : Ready). p.contract) c.self.view_is

pub returns-clause-tested : goal.returns-clause-tested
returns-clause-tested c =
    subst (λ (p : Ready). is_some c.as_ref.result ≡ is_some (tested_method (posed p.problem) (posed p.problem).mode)) c.self.view_is
    (c.as_ref.ensures.variant ∙ tested_by (posed c.self.inside.accepted) c.self.inside.code c.self.invariant.made)
