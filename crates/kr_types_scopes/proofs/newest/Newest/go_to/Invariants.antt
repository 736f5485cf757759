use Rattle.std.proofs.Common.{◌-◌, vec_len}
use Rattle.kr_types_scopes.specs.Newest.{IsNoted}
use Rattle.kr_types_scopes.proofs.newest.Newest.go_to.Given as goal

abbrev pub invariant-loop-alloc : goal.invariant-loop-alloc
invariant-loop-alloc l = IsNoted l.tree l.bindings l.self

abbrev pub decreases-loop-alloc : goal.decreases-loop-alloc
decreases-loop-alloc l = l.top - vec_len l.self.outer
