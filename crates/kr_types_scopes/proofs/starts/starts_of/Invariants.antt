use Rattle.std.proofs.Common.{◌≡◌, ◌≤◌, length}
use Rattle.kr_types_scopes.specs.Scoped.{AreStarts}
use Rattle.kr_types_scopes.specs.Newest.{IsNoted}
use Rattle.kr_types_scopes.proofs.starts.starts_of.Given as goal

abbrev pub invariant-loop-at : goal.invariant-loop-at
invariant-loop-at l = record {
  bound : l.at ≤ length l.tree.entries;
  long : length l.starts.items ≡ length l.tree.entries;
  noted : IsNoted l.tree l.bindings l.newest;
  starts : AreStarts l.tree l.bindings l.within.items l.starts.items l.at;
}

abbrev pub decreases-loop-at : goal.decreases-loop-at
decreases-loop-at l = l.at
