use Rattle.std.proofs.Common.{◌≡◌, ◌++◌, ◌+◌, ◌≤◌, drop, length, reverse}
use Rattle.std.specs.Prelude.{vec_len, vec_capacity}
use Rattle.kr_space_names.proofs.walk.add_reversed.Given as goal

abbrev pub invariant-loop-next : goal.invariant-loop-next
invariant-loop-next l = (l.left.items ≡ l.initial.left.items ++ reverse (drop l.next l.items)) × (l.next ≤ length l.items) × (vec_len l.left + l.next ≤ vec_capacity l.left)

abbrev pub decreases-loop-next : goal.decreases-loop-next
decreases-loop-next l = l.next
