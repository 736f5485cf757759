use Rattle.std.proofs.Common.{◌≡◌, ℕ, sym, ap, subst, ◌∙◌}
use Rattle.std.specs.Prelude.{IfOk}
use Rattle.std.proofs.lemmas.Result.{IfOk-weaker}
use Rattle.kr_mean.specs.Problem.{Problem}
use Rattle.kr_mean.specs.Verdicts.{verdict_of, verdict_with}
use Rattle.kr_judge_prepared.specs.Preparing.{Ready}
use Rattle.kr_space_problem.specs.Posed.{posed}
use Rattle.kr_contract.proofs.tester.Tester.verdict_on.Goals as goal

pub returns-clause-verdict : goal.returns-clause-verdict
unfolding verdict_of
returns-clause-verdict c =
    let P = posed c.self.inside.prepared.now.problem in
    let v = c.args.vector.now in
    let fuel : c.fuel-fuel.result ≡ P.fuel = c.fuel-fuel.ensures ∙ sym (ap (λ (p : Problem). p.fuel) c.layout.ensures.laid) in
    subst (λ (r : Ready). IfOk c.verdict_with_fuel.result (λ verdict. verdict ≡ verdict_of (posed r.problem) v)) c.self.view_is
    (IfOk-weaker c.verdict_with_fuel.result _ _ (λ verdict e. e ∙ ap (λ (n : ℕ). verdict_with P v n) fuel) c.verdict_with_fuel.ensures.verdict)
