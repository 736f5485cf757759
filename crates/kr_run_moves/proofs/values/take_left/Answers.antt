use Rattle.std.proofs.Common.{◌≡◌, rules}
use Rattle.kr_value.specs.declared.value.Value.{Value}
use Rattle.kr_mean.specs.Steps.{bind, say}
use Rattle.kr_mean.specs.Operators.{operated}
use Rattle.kr_code.specs.Doing.{Doing}
use Rattle.kr_run_state.specs.declared.world.World.{World}
use Rattle.kr_run_state.specs.Worlds.{Others, state_at}
use Rattle.kr_run_frames.specs.Frames.{out_value}
use Rattle.kr_run_moves.proofs.Going.{value_then, leads_behind}
use Rattle.kr_run_frames.specs.Leads.{next_task}
use Rattle.kr_run_moves.proofs.values.take_left.Goals as goal

pub returns-in-Some : goal.returns-in-Some
returns-in-Some c =
    let code = c.args.code.now in
    let w = c.args.world.now in
    let then = c.at_once.new.world in
    value_then code (next_task c.operate.result c.operate.new.task) c.args.stack.now c.operate.new.stack then then w (λ (d : Doing). d.value c.args.right) (λ (d : Doing) (u : Value). say (operated c.args.operation c.args.given u)) c.in-Some.value c.in-Some.ensures c.operate.ensures

pub returns-in-None : goal.returns-in-None
returns-in-None c =
    let code = c.args.code.now in
    let w = c.args.world.now in
    let then = c.at_once.new.world in
    let same : then ≡ w = search rules in
    leads_behind code (next_task c.read_first.result c.read_first.new.task) c.read_first.new.stack c.read_first.new.world then w (λ (u : World) (d : Doing) (x : Others). out_value code d c.args.stack.now (bind (d.value c.args.right) ((λ (d : Doing) (u : Value). say (operated c.args.operation c.args.given u)) d) (state_at u x))) same c.read_first.ensures
