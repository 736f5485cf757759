use Rattle.std.proofs.Common.{◌≡◌, ◌++◌, take}
use Rattle.std.specs.Prelude.{map}
use Rattle.kr_run_state.specs.Shown.{old_of}
use Rattle.kr_run_method.specs.Evaluated.{with_places}
use Rattle.kr_run_method.proofs.evaluating.add_olds.Given as goal

-- so many have come
abbrev pub invariant-loop-number : goal.invariant-loop-number
invariant-loop-number l = map old_of l.olds.items ≡ map old_of l.fn.olds.items ++ with_places (take l.number l.places) (take l.number l.values)
