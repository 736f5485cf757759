use Rattle.std.proofs.Common.{◌≡◌, ◌-◌, ◌++◌}
use Rattle.std.specs.Prelude.{map}
use Rattle.std.specs.List.{range_with_len}
use Rattle.kr_space_layout.specs.Bounds.{bare}
use Rattle.kr_run_state.specs.Shown.{local_of}
use Rattle.kr_judge.proofs.Starts.{parameter_local}
use Rattle.kr_judge.proofs.start.parameters_of.Given as goal

abbrev pub invariant-loop-number : goal.invariant-loop-number
invariant-loop-number l = map (parameter_local (bare l.layout) l.vector) (range_with_len 0 l.count) ≡ map local_of l.locals.items ++ map (parameter_local (bare l.layout) l.vector) (range_with_len l.number (l.count - l.number))
