use Rattle.std.proofs.Common.{◌<◌, length, refl, ap, arith}
use Rattle.kr_value.specs.declared.value.Value.{Value}
use Rattle.kr_mean.specs.Steps.{Outcome}
use Rattle.kr_run_state.specs.Worlds.{state_at}
use Rattle.kr_run_state.specs.Noting.{noting}
use Rattle.kr_run_state.proofs.Locals.{assigned}
use Rattle.kr_run_state.proofs.names.assign.Goals as goal

pub returns-then-local-len : goal.returns-then-local-len
returns-then-local-len c = λ x a.
    let lt : c.args.local < length c.args.world.now.locals.items = search arith in
    (record { allowed = a; frozen_before = λ e. e; same = λ e. refl; long = refl }, ap (λ (o : Outcome Value). noting c.args.world.now.reads o) (assigned (state_at c.args.world.now x) c.args.world.now.locals.items c.args.local c.args.value c.args.given refl lt))
