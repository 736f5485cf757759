-- Between crates: a step, and a whole run, against the meaning.
use Rattle.std.specs.Prelude.{◌≡◌, List, Result, Ok, Err}
use Rattle.kr_value.specs.declared.value.Value.{Value}
use Rattle.kr_mean.specs.declared.kind.Stop.{Stop}
use Rattle.kr_mean.specs.Steps.{Outcome}
use Rattle.kr_code.specs.declared.code.Code.{Code}
use Rattle.kr_code.specs.Doing.{Doing, IsMeaning}
use Rattle.kr_run_state.specs.declared.world.World.{World}
use Rattle.kr_run_state.specs.declared.world.Halt.{Halt}
use Rattle.kr_run_state.specs.declared.world.Halt.TheVariants.{Ended, Memory}
use Rattle.kr_run_state.specs.Noting.{noting}
use Rattle.kr_run_state.specs.Worlds.{Others, Allows, Keeps, state_at}
use Rattle.kr_run_frames.specs.Frame.{Frame}
use Rattle.kr_run_frames.specs.declared.task.Task.{Task}
use Rattle.kr_run_frames.specs.Leads.{Leads}
use Rattle.kr_run.specs.declared.steps.Step.{Step}
use Rattle.kr_run.specs.declared.steps.Step.TheVariants.{More, Finished}

-- The run ends with a value, or so, and leaves a world, in every meaning of the code: with all candidates that its reads allow.
abbrev pub ComesTo : Code → Result Value Stop → World → World → (Doing → Others → Outcome Value) → Type 0
ComesTo code r w before o = (x : Others) → Allows w x → Keeps before w x × ((d : Doing) → IsMeaning code d → noting before.reads (o d x) ≡ record { said = r; after = state_at w x; reads = w.reads })

-- the value, or the end; on out-of-memory nothing is known
abbrev pub Answers : Code → Result Value Halt → World → World → (Doing → Others → Outcome Value) → Type 0
Answers code (Ok v) w before o = ComesTo code (Ok v) w before o
Answers code (Err (Ended e)) w before o = ComesTo code (Err e) w before o
Answers code (Err (Memory why)) w before o = Unit {0}

-- a step leads on to a task, or the run has given a value or has ended
abbrev pub StepsTo : Code → Result Step Halt → Task → List Frame → World → World → (Doing → Others → Outcome Value) → Type 0
StepsTo code (Ok More) task fs w before o = Leads code (Ok task) fs w before o
StepsTo code (Ok (Finished v)) task fs w before o = Answers code (Ok v) w before o
StepsTo code (Err h) task fs w before o = Answers code (Err h) w before o
