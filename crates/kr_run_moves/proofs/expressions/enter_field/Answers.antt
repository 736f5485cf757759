use Rattle.std.proofs.Common.{◌≡◌, Ok, refl, rules}
use Rattle.kr_value.specs.declared.value.Value.{Value}
use Rattle.kr_mean.specs.Steps.{bind}
use Rattle.kr_code.specs.Doing.{Doing}
use Rattle.kr_code.specs.Steps.{load_named}
use Rattle.kr_run_state.specs.declared.action.Action.TheVariants as actions
use Rattle.kr_run_state.specs.declared.world.World.{World}
use Rattle.kr_run_state.specs.Worlds.{Others, state_at}
use Rattle.kr_run_state.proofs.Candidates.{kept_same}
use Rattle.kr_run_frames.specs.declared.task.Task.TheVariants as tasks
use Rattle.kr_run_frames.specs.Frames.{out_value}
use Rattle.kr_run_moves.proofs.Going.{value_then, leads_from}
use Rattle.kr_run_frames.specs.Leads.{next_task}
use Rattle.kr_run_moves.proofs.expressions.enter_field.Goals as goal

pub returns-in-Some : goal.returns-in-Some
returns-in-Some c =
    let code = c.args.code.now in
    let w = c.args.world.now in
    let then = c.at_once.new.world in
    value_then code (Ok (tasks.Act (actions.Load c.args.name c.in-Some.value))) c.args.stack.now c.args.stack.now then then w (λ (d : Doing). d.value c.args.object) (λ (d : Doing) (u : Value). load_named c.args.code.now c.args.name u) c.in-Some.value c.in-Some.ensures (λ x a. (kept_same then x a, λ d i. refl))

pub returns-in-None : goal.returns-in-None
returns-in-None c =
    let code = c.args.code.now in
    let w = c.args.world.now in
    let then = c.at_once.new.world in
    let same : then ≡ w = search rules in
    leads_from code (next_task c.first.result c.first.new.task) c.first.new.stack then w (λ (u : World) (d : Doing) (x : Others). out_value code d c.args.stack.now (bind (d.value c.args.object) ((λ (d : Doing) (u : Value). load_named c.args.code.now c.args.name u) d) (state_at u x))) same (c.first.ensures code then)
