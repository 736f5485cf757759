use Rattle.std.proofs.Common.{subst, ℕ, Option}
use Rattle.kr_mean.specs.Runs.{tested_method}
use Rattle.kr_space_problem.specs.Posed.{posed}
use Rattle.kr_code_lowering.specs.Calls.{IsFound}
use Rattle.kr_code_lowering.specs.Origins.{numbering_of}
use Rattle.kr_judge_code.proofs.Conditions.{none_tested, one_tested}
use Rattle.kr_judge_code.proofs.tested.tested_contract.Goals as goal

pub returns-in-None : goal.returns-in-None
returns-in-None c = λ final code methods.
    let problem = c.args.problem.now in
    none_tested problem code (numbering_of problem.program final) (subst (λ (m : Option ℕ). IsFound problem.program m (tested_method (posed problem) (posed problem).mode)) c.in-None.is c.requires.tested)

pub returns-in_ok-contract-in-Some : goal.returns-in_ok-contract-in-Some
returns-in_ok-contract-in-Some c = λ final code methods.
    let problem = c.args.problem.now in
    one_tested problem code (numbering_of problem.program final) c.in-Some.method (subst (λ (m : Option ℕ). IsFound problem.program m (tested_method (posed problem) (posed problem).mode)) c.in-Some.is c.requires.tested)
    c.in_ok-contract-in-Some.contract (c.in_ok-contract-in-Some.ensures final code methods)
