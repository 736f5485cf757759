-- Between crates: what is known at once of how a run goes on.
use Rattle.std.specs.Prelude.{◌≡◌, List, ◌++◌, Ok}
use Rattle.kr_value.specs.declared.value.Value.{Value}
use Rattle.kr_mean.specs.declared.flow.Flow.{Flow}
use Rattle.kr_mean.specs.Places.{SlotPlace}
use Rattle.kr_mean.specs.Steps.{Outcome, give}
use Rattle.kr_code.specs.declared.code.Code.{Code}
use Rattle.kr_code.specs.Doing.{Doing, IsMeaning}
use Rattle.kr_run_state.specs.declared.world.World.{World}
use Rattle.kr_run_state.specs.Noting.{noting}
use Rattle.kr_run_state.specs.Worlds.{state_of}
use Rattle.kr_run_frames.specs.Frame.{Frame}
use Rattle.kr_run_frames.specs.Frames.{out_flow, out_value}

-- a run gives a value, and these places are what was read before it and in it
pub record IsTold (v : Value) (reads : List SlotPlace) (o : Outcome Value) : Type 0 where
  pub said : o.said ≡ Ok v
  pub reads_are : o.reads ≡ reads

-- more places after the earlier ones
abbrev pub Grows : List SlotPlace → List SlotPlace → Type 0
Grows before after = (more : List SlotPlace) × (after ≡ before ++ more)

-- Of a world nothing has changed but its fuel and its locals.
pub record IsSpent (before w : World) : Type 0 where
  pub rest : w ≡ record before { fuel = w.fuel; locals = w.locals }

-- frames receive a value, or a flow, in a world
abbrev pub comes : Code → Doing → List Frame → World → Value → Outcome Value
comes code d fs w v = noting w.reads (out_value code d fs (give v (state_of w)))

abbrev pub flows : Code → Doing → List Frame → World → Flow → Outcome Value
flows code d fs w flow = noting w.reads (out_flow code d fs (give flow (state_of w)))

-- The run gives this value, in every meaning of the code, where the frames receive one.
abbrev pub TellsFrom : Code → List Frame → World → Value → Value → Type 0
TellsFrom code fs w given v = (d : Doing) → IsMeaning code d → IsTold v w.reads (comes code d fs w given)

abbrev pub TellsOf : Code → List Frame → World → Flow → Value → Type 0
TellsOf code fs w flow v = (d : Doing) → IsMeaning code d → IsTold v w.reads (flows code d fs w flow)
