-- The use of all arguments.
use Rattle.std.proofs.Common.{List, Some, subst, rules, ◌≡◌, ◌∷◌, []}
use Rattle.kr_value.specs.declared.value.Value.{Value}
use Rattle.kr_code.specs.Doing.{run_method}
use Rattle.kr_code.specs.Tables.{method_at}
use Rattle.kr_run_frames.specs.declared.frame.Goal.TheVariants as goals
use Rattle.kr_run_frames.specs.Frame.{Frame}
use Rattle.kr_run_frames.specs.Frame as frames
use Rattle.kr_run_frames.specs.Frames.{resumed}
use Rattle.kr_run_frames.specs.declared.task.Task.TheVariants as tasks
use Rattle.kr_run_moves.proofs.Moves.{onto_all}
use Rattle.kr_run.specs.Answers.{Answers}
use Rattle.kr_run_state.specs.Worlds.{state_at}
use Rattle.kr_run_method.proofs.run.call.Goals as goal

pub returns : goal.returns
returns c =
    let code = c.args.code.now in
    let w = c.args.world.now in
    let args = c.args.arguments.now in
    let waits : c.push_arguments.new.self ≡ frames.Arguments (goals.Run c.args.receiver (Some c.args.method)) (record { first = 0; count = 0 }) args ∷ [] = search rules in
    subst (λ (vs : List Value). Answers code c.run.result c.run.new.world w (λ d x. run_method code d c.args.receiver vs (method_at code c.args.method) (state_at w x))) (onto_all args)
    (subst (λ (fs : List Frame). Answers code c.run.result c.run.new.world w (λ d x. resumed code d fs tasks.Arguments (state_at w x))) waits
    c.run.ensures)
