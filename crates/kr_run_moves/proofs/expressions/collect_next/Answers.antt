use Rattle.std.proofs.Common.{◌≡◌, rules}
use Rattle.kr_mean.specs.Steps.{bind, collect}
use Rattle.kr_code.specs.Collections.{name_of}
use Rattle.kr_code.specs.Doing.{values_at}
use Rattle.kr_code.specs.Tables.{listed}
use Rattle.kr_run_state.specs.Worlds.{state_at}
use Rattle.kr_run_frames.specs.Frames.{out_value}
use Rattle.std.proofs.Common.{List, ℕ, [], ap}
use Rattle.kr_run_frames.proofs.Outcomes.{leads_alike}
use Rattle.kr_run_frames.specs.Leads.{next_task}
use Rattle.kr_run_moves.proofs.expressions.collect_next.Goals as goal

pub returns-in-None : goal.returns-in-None
unfolding bind
returns-in-None c =
    let code = c.args.code.now in
    let w = c.args.world.now in
    let fs = c.args.stack.now in
    let k = collect (name_of c.args.call) c.args.object in
    let none : listed code c.args.arguments ≡ [] = search rules in
    leads_alike code (next_task c.collected.result c.collected.new.task) c.collected.new.stack c.collected.new.world w (λ d x. out_value code d fs (bind (values_at d (listed code c.args.arguments)) k (state_at w x))) (λ d x. out_value code d fs (k [] (state_at w x)))
    (λ x d m. ap (λ (is : List ℕ). out_value code d fs (bind (values_at d is) k (state_at w x))) none)
    c.collected.ensures
