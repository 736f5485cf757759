use Rattle.std.specs.Prelude.{Ok}
use Rattle.kr_run_state.specs.Worlds.{state_at}
use Rattle.kr_run_frames.specs.Leads.{Leads}
use Rattle.kr_run.proofs.run.evaluate.Given as goal

-- the rest of the run is the whole run
abbrev pub invariant-steps : goal.invariant-steps
invariant-steps l = Leads l.code (Ok l.task) l.stack l.world l.fn.world (λ d x. d.value l.fn.node (state_at l.fn.world x))

abbrev pub decreases-steps : goal.decreases-steps
decreases-steps l = l.left
