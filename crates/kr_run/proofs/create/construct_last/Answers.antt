use Rattle.std.proofs.Common.{◌<◌, [], length, arith, ap}
use Rattle.kr_mean.specs.declared.kind.Stop.TheVariants.{Stuck}
use Rattle.kr_mean.specs.Steps.{Outcome, stop}
use Rattle.kr_code.specs.Doing.{constructed}
use Rattle.kr_run_state.specs.Worlds.{state_at}
use Rattle.kr_run_frames.specs.Frames.{out_unit}
use Rattle.kr_run_frames.proofs.Outcomes.{leads_alike}
use Rattle.kr_run.proofs.Machine.{last_stuck}
use Rattle.kr_run_frames.specs.Leads.{next_task}
use Rattle.kr_run.proofs.create.construct_last.Goals as goal

pub returns : goal.returns
returns c =
    let code = c.args.code.now in
    let w = c.args.world.now in
    let args = c.args.arguments.now.items in
    let some : 0 < length args = search arith in
    leads_alike code (next_task c.stop_unit.result c.stop_unit.new.task) c.stop_unit.new.stack w w (λ d x. out_unit code d c.args.stack.now (constructed code d [] c.args.object args (state_at w x))) (λ d x. out_unit code d c.args.stack.now (stop Stuck (state_at w x)))
    (λ x d m. ap (λ (q : Outcome (Unit {0})). out_unit code d c.args.stack.now q) (last_stuck code d c.args.object args (state_at w x) some))
    c.stop_unit.ensures
