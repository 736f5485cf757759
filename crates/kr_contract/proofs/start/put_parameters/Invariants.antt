use Rattle.std.proofs.Common.{◌≡◌, ◌-◌, ◌++◌, ◌+◌}
use Rattle.std.specs.Prelude.{map}
use Rattle.std.specs.List.{range_with_len}
use Rattle.kr_mean.specs.Heaps.{value_at}
use Rattle.kr_mean.specs.Steps.{plain_local}
use Rattle.kr_space_layout.specs.Bounds.{bare}
use Rattle.kr_run_state.specs.Shown.{local_of}
use Rattle.kr_contract.proofs.start.put_parameters.Given as goal

-- those that are there, and the others
abbrev pub invariant-loop-number : goal.invariant-loop-number
invariant-loop-number l =
    map plain_local (map (λ i. value_at (bare l.layout) l.vector (i + 1)) (range_with_len 0 l.count))
    ≡ map local_of l.locals.items ++ map plain_local (map (λ i. value_at (bare l.layout) l.vector (i + 1)) (range_with_len l.number (l.count - l.number)))
