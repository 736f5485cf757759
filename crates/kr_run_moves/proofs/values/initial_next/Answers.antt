use Rattle.std.proofs.Common.{◌≡◌, rules}
use Rattle.kr_value.specs.declared.value.Value.{Value}
use Rattle.kr_mean.specs.Steps.{bind}
use Rattle.kr_code.specs.Doing.{Doing}
use Rattle.kr_run_state.specs.declared.world.World.{World}
use Rattle.kr_run_state.specs.Worlds.{Others, state_at}
use Rattle.kr_run_frames.specs.Frames.{out_flow, tested}
use Rattle.kr_run_moves.proofs.Going.{flow_then, leads_behind}
use Rattle.kr_run_frames.specs.declared.frame.TestFrame.TheVariants as tests
use Rattle.kr_run_frames.specs.Leads.{next_task}
use Rattle.kr_run_moves.proofs.values.initial_next.Goals as goal

pub returns-in-Some : goal.returns-in-Some
returns-in-Some c =
    let code = c.args.code.now in
    let w = c.args.world.now in
    let then = c.at_once.new.world in
    flow_then code (next_task c.take_initial.result c.take_initial.new.task) c.args.stack.now c.args.stack.now c.take_initial.new.world then w (λ (d : Doing). d.value c.args.node) (λ (d : Doing) (u : Value). tested c.args.code.now d (tests.Initial c.args.local c.args.others) u) c.in-Some.given c.in-Some.ensures c.take_initial.ensures

pub returns-in-None : goal.returns-in-None
returns-in-None c =
    let code = c.args.code.now in
    let w = c.args.world.now in
    let then = c.at_once.new.world in
    let same : then ≡ w = search rules in
    leads_behind code (next_task c.wait_for_test.result c.wait_for_test.new.task) c.wait_for_test.new.stack c.wait_for_test.new.world then w (λ (u : World) (d : Doing) (x : Others). out_flow code d c.args.stack.now (bind (d.value c.args.node) ((λ (d : Doing) (u : Value). tested c.args.code.now d (tests.Initial c.args.local c.args.others) u) d) (state_at u x))) same c.wait_for_test.ensures
