use Rattle.std.proofs.Common.{◌≡◌, ◌+◌, ◌-◌, ◌++◌}
use Rattle.std.specs.Prelude.{map}
use Rattle.std.specs.List.{range_with_len}
use Rattle.kr_mean.specs.Heaps.{value_at}
use Rattle.kr_space_layout.specs.Bounds.{bare}
use Rattle.kr_build.proofs.heap.values_of.Given as goal

abbrev pub invariant-loop-number : goal.invariant-loop-number
invariant-loop-number l = map (value_at (bare l.layout) l.vector) (range_with_len l.stretch.first l.stretch.count) ≡ l.values.items ++ map (value_at (bare l.layout) l.vector) (range_with_len (l.stretch.first + l.number) (l.stretch.count - l.number))
