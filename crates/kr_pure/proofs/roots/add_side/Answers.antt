use Rattle.std.proofs.Common.{subst, List, ◌++◌}
use Rattle.std.specs.Prelude.{IfOk}
use Rattle.kr_classes_members.specs.Rosters.{method_numbered}
use Rattle.kr_code_members.specs.Nodes.{table}
use Rattle.kr_mean.specs.Code.{Node}
use Rattle.kr_pure.specs.Entries.{Enter}
use Rattle.kr_pure.proofs.Entered.{contract_same, method_there}
use Rattle.kr_pure.proofs.roots.add_side.Goals as goal

pub add_conditions-requires-clause-lines : goal.add_conditions-requires-clause-lines
add_conditions-requires-clause-lines c = (method_there c.args.program.now c.args.nodes.now c.args.method c.index-found.result.now c.requires.nodes c.requires.method c.index-found.ensures).contracts_there

pub add_conditions-requires-clause-shape : goal.add_conditions-requires-clause-shape
add_conditions-requires-clause-shape c = (method_there c.args.program.now c.args.nodes.now c.args.method c.index-found.result.now c.requires.nodes c.requires.method c.index-found.ensures).contracts_shape

pub returns : goal.returns
returns c =
    let p = c.args.program.now in
    let n = c.index-found.result.now in
    let node = method_there p c.args.nodes.now c.args.method n c.requires.nodes c.requires.method c.index-found.ensures in
    λ before arrays. subst (λ (xs : List Node). IfOk c.add_conditions.result (λ done. Enter p before c.args.entries.now.items → Enter p (before ++ xs) c.add_conditions.new.entries.items))
    (contract_same p arrays (method_numbered (table p) c.args.method) n c.args.side node) (c.add_conditions.ensures before)
