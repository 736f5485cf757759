use Rattle.std.proofs.Common.{List, sym, subst}
use Rattle.std.specs.Prelude.{map}
use Rattle.kr_ast.specs.Arena.{Arena, root}
use Rattle.kr_types_meaning.specs.Typing.{IsWellTyped}
use Rattle.kr_space_problem.specs.Posed.{posed}
use Rattle.korat_top_files.specs.Chains.{typing, from_trees}
use Rattle.korat_top_files.specs.Found.{AreShaped, Meets}
use Rattle.korat_top_files.proofs.Small.{few_nodes}
use Rattle.korat_top_files.proofs.Outcomes.{meets_next}
use Rattle.korat_top_files.proofs.find.judge_from_typing.Goals as goal

pub check-requires-clause-small : goal.check-requires-clause-small
check-requires-clause-small c = few_nodes c.args.trees.items c.requires.grown.few c.requires.grown.small

pub judge_from_finitization-requires-clause-shaped : goal.judge_from_finitization-requires-clause-shaped
judge_from_finitization-requires-clause-shaped c = subst (λ (files : List Arena). AreShaped files) (sym c.in_ok-program.ensures.files) c.requires.grown.shaped

pub returns : goal.returns
returns c =
    let trees = c.args.trees.items in
    let stated = c.in_ok-program.ensures in
    let typed = subst (λ (ts : List Arena). IsWellTyped (map root ts)) stated.files stated.typed.well_typed in
    record {
      judged = meets_next (typing (map root trees)) (λ done. from_trees c.args.mode c.args.fin.now (map root trees)) posed tt c.judge_from_finitization.result ((c.well_typed_law.ensures (map root trees)).1 typed)
          (subst (λ (ts : List Arena). Meets (from_trees c.args.mode c.args.fin.now (map root ts)) posed c.judge_from_finitization.result) stated.files c.judge_from_finitization.ensures.judged);
    }
