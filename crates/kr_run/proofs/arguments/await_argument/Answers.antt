use Rattle.std.proofs.Common.{◌≡◌, List, ◌∷◌, ap, sym, rules, ◌∙◌}
use Rattle.std.specs.Prelude.{reverse}
use Rattle.kr_value.specs.declared.value.Value.{Value}
use Rattle.kr_mean.specs.Steps.{bind}
use Rattle.kr_code.specs.Doing.{values_at}
use Rattle.kr_code.specs.Tables.{listed}
use Rattle.kr_run_state.specs.Worlds.{state_at}
use Rattle.kr_run_frames.specs.Frame.{Frame}
use Rattle.kr_run_frames.specs.Frame as frames
use Rattle.kr_run_frames.specs.Frames.{applied, continued, onto, out_value}
use Rattle.kr_run_frames.specs.Leads.{next_task}
use Rattle.kr_run_frames.proofs.Outcomes.{leads_alike}
use Rattle.kr_run.proofs.arguments.await_argument.Goals as goal

pub returns : goal.returns
unfolding bind
returns c =
    let code = c.args.code.now in
    let w = c.args.world.now in
    let fs = c.args.stack.now in
    let i = c.args.node in
    let there : c.as_slice.result.now ≡ c.args.found.items = search rules in
    let pushed = c.in_ok-await_arguments.ensures.pushed ∙ ap (λ (vs : List Value). frames.Arguments c.args.goal c.args.others vs ∷ fs) there in
    leads_alike code (next_task c.enter_node.result c.enter_node.new.task) c.enter_node.new.stack c.enter_node.new.world w
    (λ d x. out_value code d fs (continued (values_at d (i ∷ listed code c.args.others) (state_at w x)) (λ ws. applied code d c.args.goal (onto (reverse c.args.found.items) ws))))
    (λ d x. out_value code d c.await_arguments.new.stack (d.value i (state_at w x)))
    (λ x d m. sym (ap (λ (gs : List Frame). out_value code d gs (d.value i (state_at w x))) pushed))
    c.enter_node.ensures
