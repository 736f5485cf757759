use Rattle.std.specs.Prelude.{Ok}
use Rattle.kr_run_frames.specs.Frames.{resumed}
use Rattle.kr_run_frames.specs.Leads.{Leads}
use Rattle.kr_run_state.specs.Worlds.{state_at}
use Rattle.kr_run_method.proofs.run.run.Given as goal

-- the rest of the run is the whole run
abbrev pub invariant-steps : goal.invariant-steps
invariant-steps l = Leads l.code (Ok l.next) l.stack l.world l.fn.world (λ d x. resumed l.code d l.fn.stack l.fn.task (state_at l.fn.world x))

abbrev pub decreases-steps : goal.decreases-steps
decreases-steps l = l.left
