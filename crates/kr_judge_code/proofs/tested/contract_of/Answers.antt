use Rattle.std.proofs.Common.{refl}
use Rattle.kr_mean.specs.Program.{method_scope}
use Rattle.kr_space_problem.specs.Posed.{posed}
use Rattle.kr_code_members.specs.Nodes.{table}
use Rattle.kr_classes_members.specs.Rosters.{method_numbered}
use Rattle.kr_judge_prepared.specs.declared.contract.Contract.{Contract}
use Rattle.kr_judge_code.proofs.Conditions.{contract_is, lines_shape, lines_stand, method_node}
use Rattle.kr_judge_code.proofs.tested.contract_of.Goals as goal

pub of-lines-requires-clause-file : goal.of-lines-requires-clause-file
of-lines-requires-clause-file c = (method_node c.args.problem.now.program c.args.members.now c.requires.members c.args.method c.requires.method c.index-declared.result.now c.index-declared.ensures).contracts_there.file

pub of-lines-requires-clause-node : goal.of-lines-requires-clause-node
of-lines-requires-clause-node c = (method_node c.args.problem.now.program c.args.members.now c.requires.members c.args.method c.requires.method c.index-declared.result.now c.index-declared.ensures).contracts_there.node

pub add_after_body-requires-clause-shape : goal.add_after_body-requires-clause-shape
add_after_body-requires-clause-shape c =
    let p = c.args.problem.now.program in
    lines_shape p (method_numbered (table p) c.args.method) c.index-declared.result.now (method_node c.args.problem.now.program c.args.members.now c.requires.members c.args.method c.requires.method c.index-declared.result.now c.index-declared.ensures) c.of-lines.result c.of-lines.ensures.file c.of-lines.ensures.node

pub returns : goal.returns
returns c = λ final code methods.
    let problem = c.args.problem.now in
    let p = problem.program in
    let k = c.args.method in
    let m = method_numbered (table p) k in
    let n = c.index-declared.result.now in
    let is = method_node p c.args.members.now c.requires.members k c.requires.method n c.index-declared.ensures in
    let s = c.of-lines.result in
    let scope = method_scope (posed problem).program m in
    let none : Contract = record { method = k; olds = c.new-olds.result; postconditions = c.new-postconditions.result; signals = c.new-signals.result } in
    contract_is problem k c.requires.method s n is c.of-lines.ensures.file c.of-lines.ensures.node final code methods none c.add_after_body.new.contract refl c.new-olds.ensures.items c.new-postconditions.ensures.items c.new-signals.ensures.items
    (c.in_ok-add_after_body.ensures scope final (lines_stand p m n is s c.of-lines.ensures.file c.of-lines.ensures.node problem.arrays.items))
