use Rattle.std.proofs.Common.{List, ℕ, ap}
use Rattle.std.specs.Prelude.{reverse}
use Rattle.kr_code.specs.Doing.{values_at}
use Rattle.kr_code.specs.Tables.{listed}
use Rattle.kr_run_state.specs.Worlds.{state_at}
use Rattle.kr_run_frames.specs.Frames.{applied, continued, onto, out_value}
use Rattle.kr_run_frames.specs.Leads.{next_task}
use Rattle.kr_run_frames.proofs.Outcomes.{leads_alike}
use Rattle.std.specs.Prelude.{◌∷◌}
use Rattle.kr_run.proofs.Machine.{none_left}
use Rattle.kr_run.proofs.arguments.AtOnceNext.next_of.Goals as goal

pub returns-in-Some : goal.returns-in-Some
returns-in-Some g c =
    let code = c.args.code.now in
    let w = c.args.world.now in
    let fs = c.args.stack.now in
    leads_alike code (next_task c.argument_next.result c.argument_next.new.task) c.argument_next.new.stack c.argument_next.new.world w
    (λ d x. out_value code d fs (continued (values_at d (listed code c.args.nodes) (state_at w x)) (λ ws. applied code d c.args.goal (onto (reverse c.args.found.items) ws))))
    (λ d x. out_value code d fs (continued (values_at d (c.in-Some.node ∷ listed code c.in-Some.others) (state_at w x)) (λ ws. applied code d c.args.goal (onto (reverse c.args.found.items) ws))))
    (λ x d m. ap (λ (is : List ℕ). out_value code d fs (continued (values_at d is (state_at w x)) (λ ws. applied code d c.args.goal (onto (reverse c.args.found.items) ws)))) c.in-Some.ensures)
    c.argument_next.ensures

pub returns-in-None : goal.returns-in-None
returns-in-None g c = none_left c.args.code.now (next_task c.apply.result c.apply.new.task) c.apply.new.stack c.args.stack.now c.apply.new.world c.args.world.now c.args.goal c.args.nodes c.args.found.items c.in-None.ensures c.apply.ensures
