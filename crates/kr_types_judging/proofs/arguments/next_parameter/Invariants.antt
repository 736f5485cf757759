use Rattle.std.proofs.Common.{◌≡◌, ◌≤◌}
use Rattle.kr_types_judging.specs.Arguments.{listed_types}
use Rattle.kr_types_judging.proofs.arguments.next_parameter.Given as goal

abbrev pub invariant-loop-item : goal.invariant-loop-item
invariant-loop-item l = record {
  at : l.at ≤ l.fn.list;
  same : listed_types l.tree l.at ≡ listed_types l.tree l.fn.list;
}

abbrev pub decreases-loop-item : goal.decreases-loop-item
decreases-loop-item l = l.at
