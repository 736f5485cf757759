use Rattle.kr_types_scopes.specs.Tasks.{weights}
use Rattle.kr_types_scopes.proofs.Passing.{IsUnderWay}
use Rattle.kr_types_scopes.proofs.after.walk.Given as goal

-- the scope after the remaining tasks is the one after the node
abbrev pub invariant-loop-task : goal.invariant-loop-task
invariant-loop-task l = IsUnderWay l.tree l.fn.bindings.items l.bindings.items l.here l.fn.here l.node l.tasks

abbrev pub decreases-loop-task : goal.decreases-loop-task
decreases-loop-task l = weights l.tree l.tasks
