use Rattle.std.specs.Prelude.{Ok}
use Rattle.kr_mean.specs.Steps.{bind, declare}
use Rattle.kr_code.specs.Doing.{Doing}
use Rattle.kr_run_state.specs.Worlds.{state_at}
use Rattle.kr_run_frames.specs.declared.task.Task.TheVariants.{Execute}
use Rattle.kr_run_frames.proofs.Outcomes.{flow_halts_then}
use Rattle.kr_run_moves.proofs.Going.{flow_then, leads_here}
use Rattle.kr_run_moves.proofs.catches.enter_block.Goals as goal

pub returns-in-Err : goal.returns-in-Err
unfolding bind
returns-in-Err c = flow_halts_then c.args.code.now c.in-Err.halt c.args.stack.now c.add_local.new.world c.args.world.now (λ (d : Doing) (u : Unit {0}). d.exec c.args.body) (λ x. declare c.args.object (state_at c.args.world.now x)) c.in-Err.ensures

pub returns-in-Ok : goal.returns-in-Ok
returns-in-Ok c =
    let code = c.args.code.now in
    let then = c.add_local.new.world in
    flow_then code (Ok (Execute c.args.body)) c.args.stack.now c.args.stack.now then then c.args.world.now (λ (d : Doing). declare c.args.object) (λ (d : Doing) (u : Unit {0}). d.exec c.args.body) tt (λ x a. let r = c.in-Ok.ensures x a in (r.0, λ d m. r.1))
    (leads_here code (Execute c.args.body) c.args.stack.now then)
