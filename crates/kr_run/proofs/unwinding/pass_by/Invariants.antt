use Rattle.std.proofs.Common.{length}
use Rattle.kr_run_state.specs.Worlds.{state_at}
use Rattle.kr_run.specs.Unwinding.{Comes, out_passing}
use Rattle.kr_run.proofs.unwinding.pass_by.Given as goal

-- the frames that are left receive it, and the run keeps its outcome
abbrev pub invariant-frames : goal.invariant-frames
invariant-frames l = Comes l.code l.by l.stack l.world l.fn.world (λ d x. out_passing l.code d l.fn.stack l.fn.by (state_at l.fn.world x))

abbrev pub decreases-frames : goal.decreases-frames
decreases-frames l = length l.stack
