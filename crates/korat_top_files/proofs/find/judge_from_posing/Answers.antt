use Rattle.std.proofs.Common.{List, sym, subst}
use Rattle.std.specs.Prelude.{map}
use Rattle.std.proofs.lemmas.Result.{err_from_is_err_and}
use Rattle.kr_ast.specs.Arena.{Arena, root}
use Rattle.kr_space_problem.specs.Posed.{posed}
use Rattle.korat_top_files.specs.Chains.{and_then, spacing, from_problem}
use Rattle.korat_top_files.specs.Found.{AreShaped}
use Rattle.korat_top_files.proofs.Outcomes.{meets_next, stops_first}
use Rattle.korat_top_files.proofs.Posings.{meets_stop, posed_made, posed_stops}
use Rattle.korat_top_files.proofs.find.judge_from_posing.Goals as goal

pub judge_from_purity-requires-clause-shaped : goal.judge_from_purity-requires-clause-shaped
judge_from_purity-requires-clause-shaped c = subst (λ (files : List Arena). AreShaped files) (sym c.in_ok-problem.ensures.files) c.requires.shaped

pub returns-in_err-problem : goal.returns-in_err-problem
returns-in_err-problem c =
    let trees = map root c.args.program.trees.items in
    let mode = c.args.mode in
    let document = c.args.document.now in
    let stopped = err_from_is_err_and c.from_residual.result c.from_residual.ensures.1 in
    let stops = posed_stops mode trees document c.in_err-problem.field-0.0 stopped.0 c.in_err-problem.ensures.refused stopped.2 in
    record {
      judged = meets_stop (and_then (spacing mode trees document) from_problem) posed c.from_residual.result stopped.0 stopped.1 (stops_first (spacing mode trees document) from_problem stopped.0 stops);
    }

pub returns : goal.returns
returns c =
    let trees = map root c.args.program.trees.items in
    let mode = c.args.mode in
    let document = c.args.document.now in
    let problem = c.in_ok-problem.problem in
    let stated = c.in_ok-problem.ensures in
    record {
      judged = meets_next (spacing mode trees document) from_problem posed (posed problem) c.judge_from_purity.result (posed_made mode trees document problem stated.unbroken stated.problem) c.judge_from_purity.ensures.judged;
    }
