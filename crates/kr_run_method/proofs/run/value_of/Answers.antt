-- No frame waits.
use Rattle.std.proofs.Common.{List, subst}
use Rattle.kr_run_frames.specs.Frame.{Frame}
use Rattle.kr_run_frames.specs.Frames.{resumed}
use Rattle.kr_run_frames.specs.declared.task.Task.TheVariants as tasks
use Rattle.kr_run.specs.Answers.{Answers}
use Rattle.kr_run_state.specs.Worlds.{state_at}
use Rattle.kr_run_method.proofs.run.value_of.Goals as goal

pub returns : goal.returns
returns c =
    let code = c.args.code.now in
    let w = c.args.world.now in
    subst (λ (fs : List Frame). Answers code c.run.result c.run.new.world w (λ d x. resumed code d fs (tasks.Evaluate c.args.node) (state_at w x))) c.clear.ensures
    c.run.ensures
