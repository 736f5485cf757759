-- Between crates: what a run has read, and all else as it was.
use Rattle.std.specs.Prelude.{◌≡◌, List, ◌++◌}
use Rattle.kr_mean.specs.Places.{SlotPlace}
use Rattle.kr_run_state.specs.declared.world.World.{World}

-- Of a world nothing has changed but what was read, and that has only grown.
pub record OnlyReads (before w : World) : Type 0 where
  pub rest : w ≡ record before { reads = w.reads }
  pub grows : (more : List SlotPlace) × (w.reads ≡ before.reads ++ more)
