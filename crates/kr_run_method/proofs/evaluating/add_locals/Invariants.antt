use Rattle.std.proofs.Common.{◌≡◌, ◌++◌, take}
use Rattle.std.specs.Prelude.{map}
use Rattle.kr_mean.specs.Steps.{plain_local}
use Rattle.kr_run_state.specs.Shown.{local_of}
use Rattle.kr_run_method.proofs.evaluating.add_locals.Given as goal

-- so many values have come
abbrev pub invariant-loop-value : goal.invariant-loop-value
invariant-loop-value l = map local_of l.locals.items ≡ map local_of l.fn.locals.items ++ map plain_local (take l.value-index l.values)
