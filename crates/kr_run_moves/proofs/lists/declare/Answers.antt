use Rattle.std.proofs.Common.{◌∙◌, List, Option, Some, ap, sym, ℕ}
use Rattle.kr_mean.specs.Steps.{bind}
use Rattle.kr_code.specs.Doing.{all_declared, declared}
use Rattle.kr_code.specs.Tables.{listed}
use Rattle.kr_code.specs.declared.statement.Declarator.{Declarator}
use Rattle.kr_run_state.specs.Worlds.{state_at}
use Rattle.kr_run_frames.specs.Frames.{out_flow}
use Rattle.kr_run_frames.specs.Leads.{next_task}
use Rattle.kr_run_frames.proofs.Outcomes.{leads_alike}
use Rattle.kr_run_moves.proofs.lists.declare.Goals as goal

pub returns-in-Some-declarator : goal.returns-in-Some-declarator
returns-in-Some-declarator c =
    let code = c.args.code.now in
    let w = c.args.world.now in
    let fs = c.args.stack.now in
    let others = c.in-Some.others in
    let y = c.in-Some-declarator.declarator in
    leads_alike code (next_task c.declare_local.result c.declare_local.new.task) c.declare_local.new.stack c.declare_local.new.world w (λ d x. out_flow code d fs (all_declared code d (listed code c.args.nodes) (state_at w x))) (λ d x. out_flow code d fs (bind (declared d (Some y)) (λ u. all_declared code d (listed code others)) (state_at w x)))
    (λ x d m. ap (λ (is : List ℕ). out_flow code d fs (all_declared code d is (state_at w x))) c.in-Some.ensures
    ∙ ap (λ (o : Option Declarator). out_flow code d fs (bind (declared d o) (λ u. all_declared code d (listed code others)) (state_at w x))) (sym c.in-Some-declarator.ensures))
    c.declare_local.ensures
