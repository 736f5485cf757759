-- Between crates: what a step of the machine leaves to do is what there was to do.
use Rattle.std.specs.Prelude.{◌≡◌, List, Result, Ok, Err}
use Rattle.kr_value.specs.declared.value.Value.{Value}
use Rattle.kr_mean.specs.Steps.{Outcome}
use Rattle.kr_code.specs.declared.code.Code.{Code}
use Rattle.kr_code.specs.Doing.{Doing, IsMeaning}
use Rattle.kr_run_state.specs.declared.world.World.{World}
use Rattle.kr_run_state.specs.declared.world.Halt.{Halt}
use Rattle.kr_run_state.specs.declared.world.Halt.TheVariants.{Ended, Memory}
use Rattle.kr_run_state.specs.Noting.{noting}
use Rattle.kr_run_state.specs.Worlds.{Others, Allows, Keeps, state_at}
use Rattle.kr_run_frames.specs.declared.task.Task.{Task}
use Rattle.kr_run_frames.specs.Frame.{Frame}
use Rattle.kr_run_frames.specs.Frames.{resumed, stopped}

-- After a step the run's outcome, with what was read before, is that of what is left to do; where the run has stopped, frames
-- that wait are left to be passed by: with all candidates that what was read until then allows. Where memory ran out nothing is
-- said.
abbrev pub Leads : Code → Result Task Halt → List Frame → World → World → (Doing → Others → Outcome Value) → Type 0
Leads code (Ok task) fs w before o = (x : Others) → Allows w x → Keeps before w x × ((d : Doing) → IsMeaning code d → noting before.reads (o d x) ≡ noting w.reads (resumed code d fs task (state_at w x)))
Leads code (Err (Ended e)) fs w before o = (x : Others) → Allows w x → Keeps before w x × ((d : Doing) → IsMeaning code d → noting before.reads (o d x) ≡ noting w.reads (stopped code d fs e (state_at w x)))
Leads code (Err (Memory why)) fs w before o = Unit {0}

-- the new task, or why there is none
abbrev pub next_task : Result (Unit {0}) Halt → Task → Result Task Halt
next_task (Ok u) task = Ok task
next_task (Err h) task = Err h
