use Rattle.std.proofs.Common.{List, refl}
use Rattle.kr_value.specs.declared.value.Value.{Value}
use Rattle.kr_mean.specs.Steps.{give}
use Rattle.kr_code.specs.Doing.{constructed}
use Rattle.kr_code.specs.Tables.{listed}
use Rattle.kr_run_state.specs.Worlds.{state_at}
use Rattle.kr_run_frames.specs.Frame as frames
use Rattle.kr_run_frames.specs.Frames.{out_unit}
use Rattle.kr_run_frames.specs.Leads.{next_task}
use Rattle.kr_run.proofs.Machine.{taken}
use Rattle.kr_run.proofs.run.construct_on.Goals as goal

pub returns-in-Ok : goal.returns-in-Ok
returns-in-Ok c =
    let code = c.args.code.now in
    let w = c.args.world.now in
    taken code (next_task c.construct.result c.construct.new.task) c.construct.new.stack c.construct.new.world w c.args.stack.now _ c.take_found.new.stack _ c.in-Ok.arguments.items (λ (vs : List Value). frames.Construct c.args.line c.args.object vs)
    (λ fs d x. out_unit code d fs (give tt (state_at w x)))
    (λ fs us d x. out_unit code d fs (constructed code d (listed code c.args.line) c.args.object us (state_at w x)))
    c.requires.2 c.in-Ok.ensures.rest c.in-Ok.ensures.values refl (λ x d. refl)
    c.construct.ensures
