use Rattle.std.proofs.Common.{◌≡◌, rules}
use Rattle.kr_value.specs.declared.value.Value.{Value}
use Rattle.kr_mean.specs.Steps.{assign, bind, give}
use Rattle.kr_code.specs.Doing.{Doing}
use Rattle.kr_run_state.specs.declared.world.World.{World}
use Rattle.kr_run_state.specs.Worlds.{Others, state_at}
use Rattle.kr_run_frames.specs.Frames.{out_value}
use Rattle.kr_run_frames.specs.Leads.{next_task}
use Rattle.kr_run_moves.proofs.Going.{leads_behind, value_then}
use Rattle.kr_run_moves.proofs.variables.assign_local.Goals as goal

pub returns-in-Some : goal.returns-in-Some
returns-in-Some c =
    let code = c.args.code.now in
    let w = c.args.world.now in
    let then = c.at_once.new.world in
    value_then code (next_task c.store_local.result c.store_local.new.task) c.args.stack.now c.store_local.new.stack c.store_local.new.world then w (λ (d : Doing). d.value c.args.node) (λ (d : Doing) (v : Value). bind (assign c.args.local v) (λ u. give v)) c.in-Some.given c.in-Some.ensures c.store_local.ensures

pub returns-in-None : goal.returns-in-None
returns-in-None c =
    let code = c.args.code.now in
    let w = c.args.world.now in
    let then = c.at_once.new.world in
    let same : then ≡ w = search rules in
    leads_behind code (next_task c.assign_later.result c.assign_later.new.task) c.assign_later.new.stack c.assign_later.new.world then w (λ (u : World) (d : Doing) (x : Others). out_value code d c.args.stack.now (bind (d.value c.args.node) (λ v. bind (assign c.args.local v) (λ y. give v)) (state_at u x))) same c.assign_later.ensures
