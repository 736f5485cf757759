use Rattle.std.proofs.Common.{◌≡◌, ◌+◌, ◌-◌, ◌++◌}
use Rattle.std.specs.List.{range_with_len}
use Rattle.kr_build.proofs.objects.add_slots.Given as goal

abbrev pub invariant-loop-number : goal.invariant-loop-number
invariant-loop-number l = l.initial.slots.items ++ range_with_len l.stretch.first l.stretch.count ≡ l.slots.items ++ range_with_len (l.stretch.first + l.number) (l.stretch.count - l.number)
