use Rattle.std.proofs.Common.{◌≡◌, List, ◌∷◌, ap, rules}
use Rattle.std.specs.Prelude.{reverse}
use Rattle.kr_value.specs.declared.value.Value.{Value}
use Rattle.kr_mean.specs.Steps.{Outcome, Run, bind, give}
use Rattle.kr_code.specs.Doing.{Doing, values_at}
use Rattle.kr_code.specs.Tables.{listed}
use Rattle.kr_run_state.specs.declared.world.World.{World}
use Rattle.kr_run_state.specs.Worlds.{Others, state_at}
use Rattle.kr_run_frames.specs.Frames.{applied, continued, onto, out_value}
use Rattle.kr_run_frames.specs.Leads.{next_task}
use Rattle.kr_run_frames.proofs.Outcomes.{leads_alike}
use Rattle.kr_run_moves.proofs.Going.{leads_behind, value_then}
use Rattle.kr_run_moves.proofs.Moves.{assoc}
use Rattle.kr_run.proofs.arguments.argument_next.Goals as goal

pub returns-in-Some : goal.returns-in-Some
unfolding bind
returns-in-Some g c =
    let code = c.args.code.now in
    let w = c.args.world.now in
    let then = c.at_once.new.world in
    let fs = c.args.stack.now in
    let i = c.args.node in
    let r = next_task c.take_next.result c.take_next.new.task in
    let next : Doing → Value → Run (List Value) = λ d v. bind (values_at d (listed code c.args.others)) (λ ws. give (v ∷ ws)) in
    let then_all : Doing → List Value → Run Value = λ d ws. applied code d c.args.goal (onto (reverse c.args.found.items) ws) in
    leads_alike code r c.take_next.new.stack c.take_next.new.world w
    (λ d x. out_value code d fs (continued (values_at d (i ∷ listed code c.args.others) (state_at w x)) (then_all d)))
    (λ d x. out_value code d fs (bind (d.value i) (λ v. bind (next d v) (then_all d)) (state_at w x)))
    (λ x d m. ap (λ (q : Outcome Value). out_value code d fs q) (assoc (d.value i) (next d) (then_all d) (state_at w x)))
    (value_then code r fs c.take_next.new.stack c.take_next.new.world then w (λ (d : Doing). d.value i) (λ (d : Doing) (v : Value). bind (next d v) (then_all d)) c.in-Some.given c.in-Some.ensures c.take_next.ensures)

pub returns-in-None : goal.returns-in-None
returns-in-None g c =
    let code = c.args.code.now in
    let w = c.args.world.now in
    let then = c.at_once.new.world in
    let fs = c.args.stack.now in
    let same : then ≡ w = search rules in
    leads_behind code (next_task c.await_argument.result c.await_argument.new.task) c.await_argument.new.stack c.await_argument.new.world then w
    (λ (u : World) (d : Doing) (x : Others). out_value code d fs (continued (values_at d (c.args.node ∷ listed code c.args.others) (state_at u x)) (λ ws. applied code d c.args.goal (onto (reverse c.args.found.items) ws))))
    same c.await_argument.ensures
