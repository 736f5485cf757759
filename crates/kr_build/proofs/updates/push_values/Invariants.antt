use Rattle.std.proofs.Common.{◌≡◌, ◌++◌}
use Rattle.std.specs.Prelude.{map}
use Rattle.std.specs.List.{range_with_len}
use Rattle.kr_heap.specs.Objects.{with_values}
use Rattle.kr_mean.specs.Heaps.{value_at}
use Rattle.kr_space_layout.specs.Bounds.{bare}
use Rattle.kr_value.specs.Heaps.{object_in}
use Rattle.kr_build.proofs.updates.push_values.Given as goal

abbrev pub invariant-loop-number : goal.invariant-loop-number
invariant-loop-number l = l.heap ≡ with_values l.fn.heap l.object ((object_in l.fn.heap l.object).values ++ map (value_at (bare l.layout) l.vector) (range_with_len l.stretch.first l.number))
