use Rattle.std.proofs.Common.{refl, ap}
use Rattle.kr_mean.specs.declared.flow.Flow.{Flow}
use Rattle.kr_mean.specs.Steps.{Outcome}
use Rattle.kr_run_state.specs.Noting.{noting}
use Rattle.kr_run_known.specs.Knowing.{fuelled}
use Rattle.kr_run_lookahead.proofs.flows.taken.Goals as goal

pub returns-in-Some : goal.returns-in-Some
returns-in-Some g c = λ x a d i.
    let w = c.args.world.now in
    ap (λ (o : Outcome Flow). noting w.reads o) (c.in-Some.ensures d (fuelled w c.args.fuel x) i refl)
