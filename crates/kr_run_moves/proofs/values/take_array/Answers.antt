use Rattle.std.proofs.Common.{◌≡◌, Ok, refl, rules}
use Rattle.kr_value.specs.declared.value.Value.{Value}
use Rattle.kr_mean.specs.Steps.{bind, element}
use Rattle.kr_code.specs.Doing.{Doing}
use Rattle.kr_run_state.specs.declared.action.Action.TheVariants as actions
use Rattle.kr_run_state.specs.declared.world.World.{World}
use Rattle.kr_run_state.specs.Worlds.{Others, state_at}
use Rattle.kr_run_state.proofs.Candidates.{kept_same}
use Rattle.kr_run_frames.specs.declared.task.Task.TheVariants as tasks
use Rattle.kr_run_frames.specs.Frames.{out_value}
use Rattle.kr_run_moves.proofs.Going.{value_then, leads_from}
use Rattle.kr_run_frames.specs.Leads.{next_task}
use Rattle.kr_run_moves.proofs.values.take_array.Goals as goal

pub returns-in-Some : goal.returns-in-Some
returns-in-Some c =
    let code = c.args.code.now in
    let w = c.args.world.now in
    let then = c.at_once.new.world in
    value_then code (Ok (tasks.Act (actions.Element c.args.array c.in-Some.at))) c.args.stack.now c.args.stack.now then then w (λ (d : Doing). d.value c.args.index) (λ (d : Doing) (u : Value). element c.args.array u) c.in-Some.at c.in-Some.ensures (λ x a. (kept_same then x a, λ d i. refl))

pub returns-in-None : goal.returns-in-None
returns-in-None c =
    let code = c.args.code.now in
    let w = c.args.world.now in
    let then = c.at_once.new.world in
    let same : then ≡ w = search rules in
    leads_from code (next_task c.first.result c.first.new.task) c.first.new.stack then w (λ (u : World) (d : Doing) (x : Others). out_value code d c.args.stack.now (bind (d.value c.args.index) ((λ (d : Doing) (u : Value). element c.args.array u) d) (state_at u x))) same (c.first.ensures code then)
