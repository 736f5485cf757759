use Rattle.std.proofs.Common.{List, ◌∷◌, refl}
use Rattle.std.specs.Prelude.{reverse}
use Rattle.kr_value.specs.declared.value.Value.{Value}
use Rattle.kr_mean.specs.Steps.{bind, give}
use Rattle.kr_code.specs.Doing.{values_at}
use Rattle.kr_code.specs.Tables.{listed}
use Rattle.kr_run_state.specs.Worlds.{state_at}
use Rattle.kr_run_frames.specs.Frame as frames
use Rattle.kr_run_frames.specs.Frames.{continued, onto, out_unit, out_value, upwards}
use Rattle.kr_run_frames.specs.Leads.{next_task}
use Rattle.kr_run.proofs.Machine.{taken}
use Rattle.kr_run.proofs.arguments.take_up_argument.Goals as goal

pub returns-in-Ok : goal.returns-in-Ok
unfolding bind
returns-in-Ok c =
    let code = c.args.code.now in
    let w = c.args.world.now in
    taken code (next_task c.take_next_upwards.result c.take_next_upwards.new.task) c.take_next_upwards.new.stack w w c.args.stack.now _ c.take_found.new.stack _ c.in-Ok.found.items (λ (vs : List Value). frames.UpArguments c.args.up c.args.others vs)
    (λ fs d x. out_value code d fs (give c.args.given (state_at w x)))
    (λ fs us d x. out_unit code d fs (continued (bind (values_at d (listed code c.args.others)) (λ ws. give (c.args.given ∷ ws)) (state_at w x)) (λ ws. upwards code d c.args.up (onto (reverse us) ws))))
    c.requires.2 c.in-Ok.ensures.rest c.in-Ok.ensures.values refl (λ x d. refl)
    c.take_next_upwards.ensures
