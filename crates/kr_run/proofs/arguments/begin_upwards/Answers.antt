use Rattle.std.proofs.Common.{List, refl}
use Rattle.std.specs.Prelude.{reverse}
use Rattle.kr_value.specs.declared.value.Value.{Value}
use Rattle.kr_code.specs.Doing.{values_at}
use Rattle.kr_code.specs.Tables.{listed}
use Rattle.kr_run_state.specs.Worlds.{state_at}
use Rattle.kr_run_frames.specs.Frame as frames
use Rattle.kr_run_frames.specs.Frames.{continued, onto, out_arguments, out_unit, upwards}
use Rattle.kr_run_frames.specs.Leads.{next_task}
use Rattle.kr_run.proofs.Machine.{taken}
use Rattle.kr_run.proofs.arguments.begin_upwards.Goals as goal

pub returns-in-Ok : goal.returns-in-Ok
returns-in-Ok c =
    let code = c.args.code.now in
    let w = c.args.world.now in
    taken code (next_task c.next_upwards.result c.next_upwards.new.task) c.next_upwards.new.stack w w c.args.stack.now _ c.take_found.new.stack _ c.in-Ok.found.items (λ (vs : List Value). frames.UpArguments c.args.up c.args.nodes vs)
    (λ fs d x. out_arguments code d fs (state_at w x))
    (λ fs us d x. out_unit code d fs (continued (values_at d (listed code c.args.nodes) (state_at w x)) (λ ws. upwards code d c.args.up (onto (reverse us) ws))))
    c.requires.2 c.in-Ok.ensures.rest c.in-Ok.ensures.values refl (λ x d. refl)
    c.next_upwards.ensures
