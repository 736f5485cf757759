use Rattle.std.proofs.Common.{◌≡◌, drop}
use Rattle.std.specs.Prelude.{map}
use Rattle.kr_mean.specs.Steps.{old_at}
use Rattle.kr_run_state.specs.Shown.{old_of}
use Rattle.kr_run_state.proofs.names.old.Given as goal

abbrev pub invariant-loop-old : goal.invariant-loop-old
invariant-loop-old l = old_at (map old_of l.world.olds.items) l.place ≡ old_at (map old_of (drop l.old-index l.world.olds.items)) l.place
