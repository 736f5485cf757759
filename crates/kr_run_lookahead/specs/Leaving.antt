-- Between crates: values that leave bodies: what they pass needs neither locals nor `this`.
use Rattle.std.specs.Prelude.{◌≡◌, List, [], ◌∷◌}
use Rattle.kr_value.specs.declared.value.Value as v
use Rattle.kr_mean.specs.declared.flow.Flow.TheVariants as flows
use Rattle.kr_mean.specs.Steps.{Outcome, State, give}
use Rattle.kr_code.specs.declared.code.Code.{Code}
use Rattle.kr_code.specs.Doing.{Doing, IsMeaning}
use Rattle.kr_run_state.specs.declared.world.Local.{Local}
use Rattle.kr_run_frames.specs.Frame.{Frame}
use Rattle.kr_run_frames.specs.Frames.{out_flow, out_value}
use Rattle.kr_run_frames.specs.Kept.{frame_of}
use Rattle.kr_run_frames.specs.declared.frame.Waiting.{Waiting}
use Rattle.kr_run_lookahead.specs.Ahead.{IsTold}
use Rattle.kr_run_lookahead.specs.declared.leaving.Point.{Point}
use Rattle.kr_run_lookahead.specs.declared.leaving.Point.TheVariants as points
use Rattle.kr_run_lookahead.specs.declared.leaving.Stand.{Stand}

-- frames receive a value, or the value that a body gives
abbrev pub out_point : Code → Doing → List Frame → Point → State → Outcome v.Value
out_point code d fs (points.Comes u) s = out_value code d fs (give u s)
out_point code d fs (points.Gives u) s = out_flow code d fs (give (flows.Gave u) s)

-- The frames below a frame receive its outcome, from each state with so much fuel, in every meaning of the code.
abbrev pub PassesOn : Code → Waiting → Stand → Stand → Type 0
PassesOn code w a b = (d : Doing) (vs : List v.Value) (ls : List Local) (fs : List Frame) (s : State) → IsMeaning code d → s.fuel ≡ a.fuel
    → (t : State) × (t.fuel ≡ b.fuel) × (out_point code d (frame_of w vs ls ∷ fs) a.point s ≡ out_point code d fs b.point t)

-- The run gives this value where the frames receive that.
abbrev pub TellsAt : Code → List Frame → Stand → v.Value → Type 0
TellsAt code fs a u = (d : Doing) (s : State) → IsMeaning code d → s.fuel ≡ a.fuel → IsTold u [] (out_point code d fs a.point s)
