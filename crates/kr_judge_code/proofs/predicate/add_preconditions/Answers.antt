use Rattle.std.proofs.Common.{◌≡◌, ap, subst, List, ◌++◌, map}
use Rattle.std.specs.Prelude.{IfOk}
use Rattle.kr_mean.specs.Code.{Node}
use Rattle.kr_mean.specs.Program.{method_scope}
use Rattle.kr_code_members.specs.Nodes.{table, run_program}
use Rattle.kr_classes_members.specs.Rosters.{method_numbered}
use Rattle.kr_code_lowering.specs.Origins.{numbering_of}
use Rattle.kr_judge_code.specs.Lines.{required}
use Rattle.kr_judge_code.proofs.Conditions.{lines_are, lines_shape, lines_stand, method_node}
use Rattle.kr_judge_code.proofs.predicate.add_preconditions.Goals as goal

pub of-lines-requires-clause-file : goal.of-lines-requires-clause-file
of-lines-requires-clause-file c = (method_node c.args.problem.now.program c.args.members.now c.requires.members c.args.method c.requires.method c.index-declared.result.now c.index-declared.ensures).contracts_there.file

pub of-lines-requires-clause-node : goal.of-lines-requires-clause-node
of-lines-requires-clause-node c = (method_node c.args.problem.now.program c.args.members.now c.requires.members c.args.method c.requires.method c.index-declared.result.now c.index-declared.ensures).contracts_there.node

pub add_required-requires-clause-shape : goal.add_required-requires-clause-shape
add_required-requires-clause-shape c =
    let p = c.args.problem.now.program in
    lines_shape p (method_numbered (table p) c.args.method) c.index-declared.result.now (method_node c.args.problem.now.program c.args.members.now c.requires.members c.args.method c.requires.method c.index-declared.result.now c.index-declared.ensures) c.of-lines.result c.of-lines.ensures.file c.of-lines.ensures.node

pub returns : goal.returns
returns c = λ final.
    let problem = c.args.problem.now in
    let p = problem.program in
    let arrays = problem.arrays.items in
    let m = method_numbered (table p) c.args.method in
    let n = c.index-declared.result.now in
    let is = method_node c.args.problem.now.program c.args.members.now c.requires.members c.args.method c.requires.method c.index-declared.result.now c.index-declared.ensures in
    let s = c.of-lines.result in
    let o = (numbering_of p final).origin in
    let scope = method_scope (run_program p arrays) m in
    let lines = c.add_required.ensures scope final (lines_stand p m n is s c.of-lines.ensures.file c.of-lines.ensures.node arrays) in
    subst (λ (ns : List Node). IfOk c.add_required.result (λ none. map o c.add_required.new.conditions.items ≡ map o c.args.conditions.now.items ++ ns)) (ap (required scope) (lines_are p m n is s c.of-lines.ensures.file c.of-lines.ensures.node)) lines
