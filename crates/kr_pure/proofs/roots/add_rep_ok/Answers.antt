use Rattle.std.proofs.Common.{subst, List, ◌++◌, map}
use Rattle.std.specs.Prelude.{IfOk, flat_map}
use Rattle.kr_classes_table.specs.Table.{Method}
use Rattle.kr_classes_names.specs.Types.{type_at}
use Rattle.kr_mean.specs.Code.{code_of_method}
use Rattle.kr_code_members.specs.Nodes.{run_program}
use Rattle.kr_pure.specs.Entries.{Enter}
use Rattle.kr_pure.proofs.roots.add_rep_ok.Goals as goal

pub returns-in-Some : goal.returns-in-Some
returns-in-Some c =
    let problem = c.args.problem.now in
    let p = problem.program in
    λ before. subst (λ (ms : List Method). IfOk c.add_bodies.result (λ done. Enter p before c.args.entries.now.items → Enter p (before ++ flat_map (code_of_method (run_program p problem.arrays.items)) ms) c.add_bodies.new.entries.items))
    (c.in-Some.ensures.shown c.args.problem.now c.requires.subject) (c.add_bodies.ensures before (map (type_at p.table.types) problem.arrays.items))
