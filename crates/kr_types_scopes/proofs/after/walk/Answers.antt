use Rattle.std.proofs.Common.{◌<◌, List, [], subst, sym}
use Rattle.kr_types_scopes.specs.declared.tasks.Task.{Task}
use Rattle.kr_types_scopes.specs.declared.tasks.Task.TheVariants.{Pass}
use Rattle.kr_types_scopes.specs.Tasks.{weights}
use Rattle.kr_types_scopes.proofs.Passing.{way_start, way_on, way_light, way_end}
use Rattle.kr_types_scopes.proofs.after.walk.Goals as goal

pub loop-task-init : goal.loop-task-init
loop-task-init c =
    way_on c.args.tree.now c.args.bindings.now.items c.args.bindings.now.items c.pass_node.new.bindings.items c.args.here.now c.pass_node.new.here c.args.here.now c.args.node (Pass c.args.node) [] c.pass_node.new.tasks
    (way_start c.args.tree.now c.args.bindings.now.items c.args.here.now c.args.node c.requires.at c.requires.chain c.requires.top) (rw c.requires.none at c.in_ok-pass_node.ensures)

pub pass-requires-clause-at : goal.pass-requires-clause-at
pass-requires-clause-at c = (rw c.in-Some.ensures at c.loop-task.invariant.within).0

pub pass-requires-clause-top : goal.pass-requires-clause-top
pass-requires-clause-top c = c.loop-task.invariant.step.top

pub pass-requires-clause-chain : goal.pass-requires-clause-chain
pass-requires-clause-chain c = c.loop-task.invariant.step.chain

pub loop-task-preserved : goal.loop-task-preserved
loop-task-preserved c =
    way_on c.args.tree.now c.args.bindings.now.items c.loop-task.bindings.items c.pass.new.bindings.items c.loop-task.here c.pass.new.here c.args.here.now c.args.node c.in-Some.task c.pop.new.self c.pass.new.tasks
    (rw c.in-Some.ensures at c.loop-task.invariant) c.in_ok-pass.ensures

pub loop-task-smaller : goal.loop-task-smaller
loop-task-smaller c =
    let tree = c.args.tree.now in
    let less : weights tree c.pass.new.tasks < weights tree c.loop-task.tasks =
    subst (λ (ts : List Task). weights tree c.pass.new.tasks < weights tree ts) (sym c.in-Some.ensures)
    (way_light tree c.loop-task.bindings.items c.pass.new.bindings.items c.loop-task.here c.pass.new.here c.in-Some.task c.pop.new.self c.pass.new.tasks c.in_ok-pass.ensures) in
    less

pub returns-clause-made : goal.returns-clause-made
returns-clause-made c =
    way_end c.args.tree.now c.args.bindings.now.items c.loop-task.bindings.items c.loop-task.here c.args.here.now c.args.node (rw c.in_default.ensures.0 at c.loop-task.invariant)
