use Rattle.std.proofs.Common.{◌≡◌, ◌<◌, [], length}
use Rattle.kr_types_scopes.proofs.Handed.{AreDone}
use Rattle.kr_types_scopes.proofs.scopes.Scopes.of.Given as goal

abbrev pub invariant-loop-at : goal.invariant-loop-at
invariant-loop-at l = record {
  bound : l.at < length l.tree.entries;
  none : l.tasks ≡ [];
  done : AreDone l.tree l.bindings.items l.within.items l.at;
}

abbrev pub decreases-loop-at : goal.decreases-loop-at
decreases-loop-at l = l.at
