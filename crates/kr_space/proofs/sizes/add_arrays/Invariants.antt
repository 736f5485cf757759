use Rattle.std.proofs.Common.{◌≡◌, ◌++◌, map, drop}
use Rattle.kr_space_rules.specs.Entries.{bound_shown}
use Rattle.kr_space.proofs.sizes.add_arrays.Given as goal

abbrev pub invariant-loop-bound : goal.invariant-loop-bound
invariant-loop-bound l =
    l.initial.counts.items ++ map (λ a. a.1.count) (map (bound_shown l.types l.document.arrays) l.bounds)
    ≡ l.counts.items ++ map (λ a. a.1.count) (map (bound_shown l.types l.document.arrays) (drop l.bound-index l.bounds))
