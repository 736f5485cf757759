use Rattle.std.proofs.Common.{◌≡◌, take}
use Rattle.std.specs.Prelude.{map}
use Rattle.kr_mean.specs.Steps.{plain_local}
use Rattle.kr_run_state.specs.Shown.{local_of}
use Rattle.kr_run.proofs.calls.become_arguments.Given as goal

abbrev pub invariant-loop-argument : goal.invariant-loop-argument
invariant-loop-argument l = map local_of l.locals.items ≡ map plain_local (take l.argument-index l.arguments)
