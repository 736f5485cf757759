-- Between crates: what passes frames by.
use Rattle.std.specs.Prelude.{ℕ, ◌≡◌, List, [], ◌∷◌, map, take, Option, Some, None, if◌then◌else◌}
use Rattle.kr_value.specs.declared.value.Value.{Value}
use Rattle.kr_mean.specs.declared.flow.Flow.{Flow}
use Rattle.kr_mean.specs.declared.flow.Flow.TheVariants as flows
use Rattle.kr_mean.specs.declared.kind.Kind.{Kind}
use Rattle.kr_mean.specs.declared.kind.Stop.{Stop}
use Rattle.kr_mean.specs.declared.kind.Stop.TheVariants.{Trapped}
use Rattle.kr_mean.specs.Steps.{State, Outcome, give}
use Rattle.kr_code.specs.declared.code.Code.{Code}
use Rattle.kr_code.specs.declared.statement.Catch.{Catch}
use Rattle.kr_code.specs.Tables.{node_at, catch_of, listed, class_in_kind, is_caught_by}
use Rattle.kr_code.specs.Doing.{Doing, IsMeaning}
use Rattle.kr_run_state.specs.declared.world.Local.{Local}
use Rattle.kr_run_state.specs.declared.world.World.{World}
use Rattle.kr_run_state.specs.Noting.{noting}
use Rattle.kr_run_state.specs.Shown.{local_of}
use Rattle.kr_run_state.specs.Worlds.{Others, Allows, Keeps, state_at}
use Rattle.kr_run_frames.specs.declared.frame.Waiting.{Waiting}
use Rattle.kr_run_frames.specs.declared.frame.Waiting.TheVariants as kept
use Rattle.kr_run_frames.specs.Frame.{Frame}
use Rattle.kr_run_frames.specs.Frame as frames
use Rattle.kr_run_frames.specs.Frames.{out_flow, stopped}
use Rattle.kr_run_frames.specs.Kept.{frame_of, locals_on}
use Rattle.kr_run.specs.declared.unwinding.Passing.{Passing}
use Rattle.kr_run.specs.declared.unwinding.Passing.TheVariants as passing
use Rattle.kr_run.specs.declared.unwinding.Caught.{Caught}
use Rattle.kr_run.specs.declared.unwinding.Ends.{Ends}
use Rattle.kr_run.specs.declared.unwinding.Ends.TheVariants as parts

-- flows that leave the body
abbrev pub IsLeaving : Flow → Type 0
IsLeaving flows.Left = Unit {0}
IsLeaving (flows.Gave v) = Unit {0}
IsLeaving _ = ⊥

-- the outcome of the whole run, where the frames receive this
abbrev pub out_passing : Code → Doing → List Frame → Passing → State → Outcome Value
out_passing code d fs (passing.Flow flow) s = out_flow code d fs (give flow s)
out_passing code d fs (passing.Stop e) s = stopped code d fs e s

-- the state after a frame that has these locals
abbrev pub state_behind : Ends → List Local → State → State
state_behind parts.Nothing ls s = s
state_behind (parts.Scope n) ls s = record s { locals = take n s.locals }
state_behind (parts.Body this) ls s = record s { this_value = this; locals = map local_of ls }

-- the first clause that fits a kind
abbrev pub clause_or : Code → Kind → Option Catch → Option Caught → Option Caught
clause_or code k None rest = None
clause_or code k (Some c) rest = if is_caught_by code c.caught (class_in_kind code k) then Some (record { kind = k; body = c.body }) else rest

abbrev pub clause_at : Code → Kind → List ℕ → Option Caught
clause_at code k [] = None
clause_at code k (i ∷ is) = clause_or code k (catch_of (node_at code i)) (clause_at code k is)

-- the clause by which a frame catches what stops the run
abbrev pub clause_in : Code → Waiting → Stop → Option Caught
clause_in code (kept.Catch cs) (Trapped k) = clause_at code k (listed code cs)
clause_in code w e = None

abbrev pub catch_in : Code → Frame → Stop → Option Caught
catch_in code (frames.Catch cs) (Trapped k) = clause_at code k (listed code cs)
catch_in code f e = None

-- It passes a frame by, and with it these end: the run's outcome is the same.
abbrev pub PassesBy : Code → Waiting → Passing → Ends → Type 0
PassesBy code frame p ends = (d : Doing) (vs : List Value) (ls : List Local) (fs : List Frame) (s : State) → out_passing code d (frame_of frame vs ls ∷ fs) p s ≡ out_passing code d fs p (state_behind ends (locals_on (frame_of frame vs ls ∷ fs)) s)

-- The frames receive it now, and the run keeps its outcome.
abbrev pub Comes : Code → Passing → List Frame → World → World → (Doing → Others → Outcome Value) → Type 0
Comes code p fs w before o = (x : Others) → Allows w x → Keeps before w x × ((d : Doing) → IsMeaning code d → noting before.reads (o d x) ≡ noting w.reads (out_passing code d fs p (state_at w x)))

-- the topmost frame catches what stops the run, or no frame is left
abbrev pub IsCaught : Code → List Frame → Stop → Type 0
IsCaught code [] e = Unit {0}
IsCaught code (f ∷ fs) e = (c : Caught) × (catch_in code f e ≡ Some c)

-- frames may wait for a flow, and one that catches it for what stops the run
abbrev pub MayAwait : Code → Waiting → Passing → Type 0
MayAwait code frame (passing.Flow flow) = Unit {0}
MayAwait code frame (passing.Stop e) = (c : Caught) × (clause_in code frame e ≡ Some c)

-- where it has passed by all that don't wait for it
abbrev pub HasPassed : Code → Passing → List Frame → Type 0
HasPassed code (passing.Flow flow) fs = Unit {0}
HasPassed code (passing.Stop e) fs = IsCaught code fs e
