use Rattle.std.proofs.Common.{◌≡◌, ◌-◌, ◌++◌}
use Rattle.std.specs.Prelude.{map}
use Rattle.std.specs.List.{range_with_len}
use Rattle.kr_mean.specs.Heaps.{heap_object}
use Rattle.kr_mean.specs.Problem.{domain_at}
use Rattle.kr_space_layout.specs.Bounds.{bare}
use Rattle.kr_build.proofs.heap.add_domain.Given as goal

abbrev pub invariant-loop-number : goal.invariant-loop-number
invariant-loop-number l =
    l.initial.heap ++ map (heap_object (bare l.layout) l.vector) (map (λ k. record { domain = l.domain; number = k }) (range_with_len 0 (domain_at (bare l.layout) l.domain).count))
    ≡ l.heap ++ map (heap_object (bare l.layout) l.vector) (map (λ k. record { domain = l.domain; number = k }) (range_with_len l.number ((domain_at (bare l.layout) l.domain).count - l.number)))
