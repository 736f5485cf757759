use Rattle.std.proofs.Common.{sym, ap, ◌∙◌}
use Rattle.std.specs.Prelude.{option_copied}
use Rattle.kr_space_problem.specs.Posed.{posed}
use Rattle.kr_contract.proofs.Verdicts.{untested}
use Rattle.kr_contract.proofs.tester.verdict_with_fuel.Goals as goal

pub returns-in-None-clause-verdict : goal.returns-in-None-clause-verdict
returns-in-None-clause-verdict c =
    untested (posed c.args.prepared.now.problem) (record { predicate = c.predicate.result.now; contract = c.args.prepared.now.contract }) c.predicate.ensures.tested c.args.vector.now c.args.fuel
    (sym c.contract.ensures.same ∙ ap option_copied c.in-None.is)
