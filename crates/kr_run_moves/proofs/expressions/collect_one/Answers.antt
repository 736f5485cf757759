use Rattle.std.proofs.Common.{◌≡◌, rules}
use Rattle.kr_value.specs.declared.value.Value.{Value}
use Rattle.kr_mean.specs.Steps.{bind, collect}
use Rattle.kr_code.specs.Collections.{name_of}
use Rattle.kr_code.specs.Doing.{Doing, values_at}
use Rattle.kr_code.specs.Tables.{listed}
use Rattle.kr_run_state.specs.declared.world.World.{World}
use Rattle.kr_run_state.specs.Worlds.{Others, state_at}
use Rattle.kr_run_frames.specs.Frames.{out_value}
use Rattle.kr_run_moves.proofs.Going.{value_then, leads_from}
use Rattle.std.proofs.Common.{List, ℕ, [], ◌∷◌, ap, ◌∙◌}
use Rattle.kr_run_frames.proofs.Outcomes.{leads_alike}
use Rattle.kr_run_moves.proofs.Going.{one_value}
use Rattle.kr_run_frames.specs.Leads.{next_task}
use Rattle.kr_run_moves.proofs.expressions.collect_one.Goals as goal

pub returns-in-Some : goal.returns-in-Some
returns-in-Some c =
    let code = c.args.code.now in
    let w = c.args.world.now in
    let then = c.at_once.new.world in
    let fs = c.args.stack.now in
    let k = collect (name_of c.args.call) c.args.object in
    let last = c.collected_with.new.world in
    leads_alike code (next_task c.collected_with.result c.collected_with.new.task) c.collected_with.new.stack last w (λ d x. out_value code d fs (bind (values_at d (listed code c.args.arguments)) k (state_at w x))) (λ d x. out_value code d fs (bind (d.value c.args.node) (λ v. k (v ∷ [])) (state_at w x)))
    (λ x d m. ap (λ (is : List ℕ). out_value code d fs (bind (values_at d is) k (state_at w x))) c.requires ∙ ap (out_value code d fs) (one_value d c.args.node k (state_at w x)))
    (value_then code (next_task c.collected_with.result c.collected_with.new.task) fs c.collected_with.new.stack last then w (λ (d : Doing). d.value c.args.node) (λ (d : Doing) (v : Value). k (v ∷ [])) c.in-Some.argument c.in-Some.ensures c.collected_with.ensures)

pub returns-in-None : goal.returns-in-None
returns-in-None c =
    let code = c.args.code.now in
    let w = c.args.world.now in
    let then = c.at_once.new.world in
    let same : then ≡ w = search rules in
    leads_from code (next_task c.collect_later.result c.collect_later.new.task) c.collect_later.new.stack then w (λ (u : World) (d : Doing) (x : Others). out_value code d c.args.stack.now (bind (values_at d (listed code c.args.arguments)) (collect (name_of c.args.call) c.args.object) (state_at u x))) same c.collect_later.ensures
