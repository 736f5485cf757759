use Rattle.std.specs.Prelude.{map}
use Rattle.kr_ast.specs.Arena.{root}
use Rattle.kr_space_problem.specs.Posed.{posed}
use Rattle.korat_top_files.specs.Chains.{stating, from_document}
use Rattle.korat_top_files.proofs.Outcomes.{meets_next}
use Rattle.korat_top_files.proofs.find.judge_from_finitization.Goals as goal

pub judge_from_posing-requires-clause-limits : goal.judge_from_posing-requires-clause-limits
judge_from_posing-requires-clause-limits c = c.limits_law.ensures c.args.fin.now c.in_ok-document.document c.in_ok-document.ensures.read

pub returns : goal.returns
returns c =
    let trees = map root c.args.program.trees.items in
    record {
      judged = meets_next (stating c.args.fin.now) (λ document. from_document c.args.mode trees document) posed c.in_ok-document.document c.judge_from_posing.result c.in_ok-document.ensures.read c.judge_from_posing.ensures.judged;
    }
