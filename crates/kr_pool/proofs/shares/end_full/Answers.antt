use Rattle.std.proofs.Common.{ap, ◌∙◌, arith}
use Rattle.kr_core.specs.Rows.{drained}
use Rattle.kr_core.specs.declared.event.Event.TheVariants.{StopAt}
use Rattle.kr_board.proofs.Staying.{drained-more}
use Rattle.kr_pool.proofs.shares.end_full.Goals as goal

pub returns-in-Ok-clause-drained : goal.returns-in-Ok-clause-drained
returns-in-Ok-clause-drained g c = ap drained c.in-Ok.ensures.own

pub returns-in-Ok-stop-clause-drained : goal.returns-in-Ok-stop-clause-drained
returns-in-Ok-stop-clause-drained g c =
    let stopped = c.in-Ok-stop.ensures.own in
    let log = ap drained stopped.log_is in
    let more = drained-more c.in-Err.here.log (StopAt stopped.mark) in
    let back = ap (λ h. drained h.log) c.in-Err.ensures.back in
    omega (arith, log, more, back)
