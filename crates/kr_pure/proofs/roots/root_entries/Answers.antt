use Rattle.std.proofs.Common.{sym, subst, List, []}
use Rattle.std.specs.Prelude.{flat_map}
use Rattle.kr_ast.specs.declared.files.NodeId.{NodeId}
use Rattle.kr_mean.specs.Code.{code_of_method}
use Rattle.kr_mean.specs.Purity.{rep_ok_method}
use Rattle.kr_space_problem.specs.Posed.{posed}
use Rattle.kr_code_members.specs.Nodes.{run_program}
use Rattle.kr_pure.specs.Entries.{Enter}
use Rattle.kr_pure.proofs.Entered.{none_entered}
use Rattle.kr_pure.proofs.roots.root_entries.Goals as goal

pub returns : goal.returns
returns c =
    let problem = c.args.problem.now in
    let p = problem.program in
    let start = subst (λ (es : List NodeId). Enter p [] es) (sym c.new-entries.ensures.items) (none_entered p) in
    c.in_ok-add_contract.ensures (flat_map (code_of_method (run_program p problem.arrays.items)) (rep_ok_method (posed problem))) (c.in_ok-add_rep_ok.ensures [] start)
