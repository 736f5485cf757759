use Rattle.std.proofs.Common.{◌-◌, ◌≡◌}
use Rattle.kr_types_scopes.specs.Newest.{IsNoted}
use Rattle.kr_types_scopes.proofs.newest.Newest.leave_to.Given as goal

abbrev pub invariant-loop-self : goal.invariant-loop-self
invariant-loop-self l = record {
  noted : IsNoted l.tree l.bindings l.self;
  outer : l.self.outer.items ≡ l.initial.self.outer.items;
}

abbrev pub decreases-loop-self : goal.decreases-loop-self
decreases-loop-self l = l.self.at - l.place
