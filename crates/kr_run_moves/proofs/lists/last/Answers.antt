use Rattle.std.proofs.Common.{Ok, ap, refl, ◌∷◌}
use Rattle.kr_code.specs.Doing.{all_at}
use Rattle.kr_code.specs.Tables.{listed}
use Rattle.kr_run_state.specs.Worlds.{state_at}
use Rattle.kr_run_state.proofs.Candidates.{kept_same}
use Rattle.kr_run_frames.specs.declared.task.Task.TheVariants as tasks
use Rattle.kr_run_frames.specs.Frames.{out_flow}
use Rattle.kr_run_frames.proofs.Outcomes.{leads_alike}
use Rattle.kr_run_moves.proofs.Going.{last_one}
use Rattle.kr_run_moves.proofs.lists.last.Goals as goal

pub returns : goal.returns
returns c =
    let code = c.args.code.now in
    let w = c.args.world.now in
    let fs = c.args.stack.now in
    leads_alike code (Ok (tasks.Execute c.args.node)) fs w w (λ d x. out_flow code d fs (all_at d (c.args.node ∷ listed code c.args.others) (state_at w x))) (λ d x. out_flow code d fs (d.exec c.args.node (state_at w x)))
    (λ x d m. ap (out_flow code d fs) (last_one code d c.args.node c.args.others (state_at w x) c.requires))
    (λ x a. (kept_same w x a, λ d m. refl))
