use Rattle.std.proofs.Common.{List, Ok, ap, refl, ℕ}
use Rattle.kr_mean.specs.declared.flow.Flow.TheVariants as flows
use Rattle.kr_mean.specs.Steps.{give}
use Rattle.kr_code.specs.Doing.{all_declared}
use Rattle.kr_code.specs.Tables.{listed}
use Rattle.kr_run_state.specs.Worlds.{state_at}
use Rattle.kr_run_state.proofs.Candidates.{kept_same}
use Rattle.kr_run_frames.specs.declared.task.Task.TheVariants as tasks
use Rattle.kr_run_frames.specs.Frames.{out_flow}
use Rattle.kr_run_frames.proofs.Outcomes.{leads_alike}
use Rattle.kr_run_moves.proofs.values.declare_none.Goals as goal
use Rattle.kr_run_known.proofs.Going.{none_listed}

pub returns : goal.returns
returns c =
    let code = c.args.code.now in
    let w = c.args.world.now in
    let fs = c.args.stack.now in
    leads_alike code (Ok (tasks.Led flows.Next)) fs w w (λ d x. out_flow code d fs (all_declared code d (listed code c.args.others) (state_at w x))) (λ d x. out_flow code d fs (give flows.Next (state_at w x)))
    (λ x d m. ap (λ (is : List ℕ). out_flow code d fs (all_declared code d is (state_at w x))) (none_listed code c.args.others c.requires))
    (λ x a. (kept_same w x a, λ d m. refl))
