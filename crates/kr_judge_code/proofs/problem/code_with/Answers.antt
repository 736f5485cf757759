use Rattle.kr_judge_code.proofs.Conditions.{code_for}
use Rattle.kr_judge_code.proofs.problem.code_with.Goals as goal

pub returns : goal.returns
returns c =
    code_for c.args.problem.now (record { predicate = record { code = c.in_ok-code.code; conditions = c.in_ok-conditions.conditions }; contract = c.in_ok-contract.contract }) c.in_ok-code.ensures c.in_ok-conditions.ensures c.in_ok-contract.ensures
