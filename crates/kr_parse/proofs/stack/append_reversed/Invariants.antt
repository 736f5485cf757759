use Rattle.std.proofs.Common.{◌≡◌, ◌++◌, ◌+◌, ◌≤◌, drop, length, reverse}
use Rattle.std.specs.Prelude.{vec_len, vec_capacity}
use Rattle.kr_parse.proofs.stack.append_reversed.Given as goal

abbrev pub invariant-loop-left : goal.invariant-loop-left
invariant-loop-left l = (l.items.items ≡ l.initial.items.items ++ reverse (drop l.left l.body)) × (l.left ≤ length l.body) × (vec_len l.items + l.left ≤ vec_capacity l.items)

abbrev pub decreases-loop-left : goal.decreases-loop-left
decreases-loop-left l = l.left
