use Rattle.std.proofs.Common.{ap, ◌∷◌, rules}
use Rattle.kr_mean.specs.Steps.{bind, give}
use Rattle.kr_mean.specs.declared.flow.Flow.TheVariants.{Next}
use Rattle.kr_code.specs.Doing.{updates_at}
use Rattle.kr_code.specs.Tables.{listed}
use Rattle.kr_run_state.specs.Worlds.{state_at}
use Rattle.kr_run_frames.specs.Frames.{out_flow}
use Rattle.kr_run_frames.specs.Leads.{next_task}
use Rattle.kr_run_frames.proofs.Outcomes.{leads_alike}
use Rattle.kr_run_moves.proofs.Going.{last_update}
use Rattle.kr_run_moves.proofs.lists.update_by.Goals as goal

pub returns-then-others-eq0 : goal.returns-then-others-eq0
returns-then-others-eq0 c =
    let code = c.args.code.now in
    let w = c.args.world.now in
    let fs = c.args.stack.now in
    leads_alike code (next_task c.wait_for_test.result c.wait_for_test.new.task) c.wait_for_test.new.stack c.wait_for_test.new.world w (λ d x. out_flow code d fs (updates_at d (c.args.node ∷ listed code c.args.others) (state_at w x))) (λ d x. out_flow code d fs (bind (d.value c.args.node) (λ v. give Next) (state_at w x)))
    (λ x d m. ap (out_flow code d fs) (last_update code d c.args.node c.args.others (state_at w x) (search rules)))
    c.wait_for_test.ensures
