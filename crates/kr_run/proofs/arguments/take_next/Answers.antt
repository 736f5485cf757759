use Rattle.std.proofs.Common.{List, ◌∷◌, ap, sym, ◌∙◌}
use Rattle.std.specs.Prelude.{reverse}
use Rattle.kr_value.specs.declared.value.Value.{Value}
use Rattle.kr_mean.specs.Steps.{bind, give}
use Rattle.kr_code.specs.Doing.{values_at}
use Rattle.kr_code.specs.Tables.{listed}
use Rattle.kr_run_state.specs.Worlds.{state_at}
use Rattle.kr_run_frames.specs.Frames.{continued, onto, applied, out_value}
use Rattle.kr_run_frames.specs.Leads.{next_task}
use Rattle.kr_run_frames.proofs.Outcomes.{leads_alike}
use Rattle.kr_run_moves.proofs.Moves.{mapped}
use Rattle.kr_run.proofs.arguments.take_next.Goals as goal

pub returns-in-Ok : goal.returns-in-Ok
unfolding bind
returns-in-Ok g c =
    let code = c.args.code.now in
    let w = c.args.world.now in
    let fs = c.args.stack.now in
    let ns = listed code c.args.others in
    leads_alike code (next_task c.next_of.result c.next_of.new.task) c.next_of.new.stack c.next_of.new.world w
    (λ d x. out_value code d fs (continued (bind (values_at d ns) (λ ws. give (c.args.given ∷ ws)) (state_at w x)) (λ ws. applied code d c.args.goal (onto (reverse c.args.found.items) ws))))
    (λ d x. out_value code d fs (continued (values_at d ns (state_at w x)) (λ ws. applied code d c.args.goal (onto (reverse c.in-Ok.values.items) ws))))
    (λ x d m.
    ap (λ q. out_value code d fs q) (mapped (values_at d ns) (λ ws. c.args.given ∷ ws) (λ ws. applied code d c.args.goal (onto (reverse c.args.found.items) ws)) (state_at w x))
    ∙ ap (λ (us : List Value). out_value code d fs (continued (values_at d ns (state_at w x)) (λ ws. applied code d c.args.goal (onto us ws)))) (sym c.in-Ok.ensures.more))
    c.next_of.ensures
