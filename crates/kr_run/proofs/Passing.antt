-- Frames that are passed by: one step of it, and the frames that wait.
use Rattle.std.proofs.Common.{◌≡◌, ◌<◌, arith, ℕ, Bool, true, false, if◌then◌else◌, List, [], ◌∷◌, Option, Some, None, Result, Ok, Err, length, refl, sym, ap, ◌∙◌, subst}
use Rattle.std.specs.Prelude.{drop, option_map}
use Rattle.kr_mean.specs.declared.flow.Flow.{Flow}
use Rattle.kr_mean.specs.declared.flow.Flow.TheVariants as flows
use Rattle.kr_mean.specs.declared.kind.Kind.{Kind}
use Rattle.kr_mean.specs.declared.kind.Stop.{Stop}
use Rattle.kr_mean.specs.declared.kind.Stop.TheVariants.{Trapped, OutOfFuel, Stuck}
use Rattle.kr_mean.specs.Thrown.{caught_by}
use Rattle.kr_value.specs.declared.value.Value.{Value}
use Rattle.kr_mean.specs.Steps.{State, Outcome, Run, give, stop}
use Rattle.kr_code.specs.declared.code.Code.{Code}
use Rattle.kr_code.specs.declared.expression.Nodes.{Nodes}
use Rattle.kr_code.specs.declared.statement.Catch.{Catch}
use Rattle.kr_code.specs.Tables.{node_at, catch_of, listed, class_in_kind, is_caught_by}
use Rattle.kr_code.specs.Doing.{Doing, catch_at, caught_or, caught_at}
use Rattle.kr_run_state.proofs.Candidates.{kept_same, kept_then}
use Rattle.kr_run_state.specs.declared.world.Halt.{Halt}
use Rattle.kr_run_state.specs.declared.world.Halt.TheVariants.{Ended, Memory}
use Rattle.kr_run_state.specs.declared.world.Local.{Local}
use Rattle.kr_run_state.specs.declared.world.World.{World}
use Rattle.kr_run_state.specs.Noting.{noting}
use Rattle.kr_run_state.specs.Worlds.{Others, Allows, Keeps, state_at}
use Rattle.kr_run_frames.specs.declared.frame.FlowFrame.{FlowFrame}
use Rattle.kr_run_frames.specs.declared.frame.FlowFrame.TheVariants as leads
use Rattle.kr_run_frames.specs.declared.frame.Waiting.{Waiting}
use Rattle.kr_run_frames.specs.declared.frame.Waiting.TheVariants as kept
use Rattle.kr_run_frames.specs.declared.task.Task.{Task}
use Rattle.kr_run_frames.specs.declared.task.Task.TheVariants as tasks
use Rattle.kr_run_frames.specs.Frame.{Frame}
use Rattle.kr_run_frames.specs.Frame as frames
use Rattle.kr_run_frames.specs.Frames.{out_flow, resumed, stopped}
use Rattle.kr_run_frames.specs.Kept.{IsOnTop, frame_of, locals_on}
use Rattle.kr_run_frames.specs.Leads.{Leads}
use Rattle.kr_run_frames.proofs.Outcomes.{flow_stops, leads_same}
use Rattle.kr_run.specs.Answers.{Answers, StepsTo}
use Rattle.kr_run.specs.declared.steps.Step.{Step}
use Rattle.kr_run.specs.declared.steps.Step.TheVariants.{More, Finished}
use Rattle.kr_run.specs.declared.unwinding.Caught.{Caught}
use Rattle.kr_run.specs.declared.unwinding.Passing.{Passing}
use Rattle.kr_run.specs.declared.unwinding.Passing.TheVariants as passing
use Rattle.kr_run.specs.declared.unwinding.Ends.{Ends}
use Rattle.kr_run.specs.declared.unwinding.Ends.TheVariants as parts
use Rattle.kr_run.specs.Unwinding.{Comes, HasPassed, IsCaught, IsLeaving, MayAwait, PassesBy, catch_in, clause_at, clause_in, clause_or, out_passing, state_behind}

-- a flow that leaves the body passes frames that wait for a statement's end
pub leaves : (code : Code) (f : FlowFrame) (flow : Flow) → IsLeaving flow → PassesBy code (kept.Flow f) (passing.Flow flow) parts.Nothing
leaves code (leads.Rest ns) flows.Left i = λ d vs ls fs s. refl
leaves code (leads.Rest ns) (flows.Gave v) i = λ d vs ls fs s. refl
leaves code (leads.Again l) flows.Left i = λ d vs ls fs s. refl
leaves code (leads.Again l) (flows.Gave v) i = λ d vs ls fs s. refl
leaves code (leads.Update ns) flows.Left i = λ d vs ls fs s. refl
leaves code (leads.Update ns) (flows.Gave v) i = λ d vs ls fs s. refl
leaves code (leads.First l) flows.Left i = λ d vs ls fs s. refl
leaves code (leads.First l) (flows.Gave v) i = λ d vs ls fs s. refl
leaves code f flows.Next i = absurd i
leaves code f flows.Broke i = absurd i
leaves code f flows.Continued i = absurd i

-- a frame is passed by, and what ends with it has ended
pub goes : (code : Code) (top after : List Frame) (frame : Waiting) (by : Passing) (ends : Ends) (w w' before : World) (o : Doing → Others → Outcome Value) (on : IsOnTop frame top) → after ≡ drop 1 top → PassesBy code frame by ends
    → ((x : Others) → Allows w' x → Allows w x) → ((x : Others) → Keeps before w x → Keeps before w' x) → w'.reads ≡ w.reads → ((x : Others) → state_at w' x ≡ state_behind ends (locals_on top) (state_at w x))
    → Comes code by top w before o → Comes code by after w' before o
goes code top after frame by ends w w' before o on behind passes allows keeps reads is h = λ x a.
    let y = h x (allows x a) in (
      keeps x y.0,
      λ d m.
          y.1 d m
          ∙ ap (λ (fs : List Frame). noting w.reads (out_passing code d fs by (state_at w x))) on.is
          ∙ ap (λ (q : Outcome Value). noting w.reads q) (passes d on.values on.locals on.rest (state_at w x))
          ∙ ap (λ (fs : List Frame). noting w.reads (out_passing code d on.rest by (state_behind ends (locals_on fs) (state_at w x)))) (sym on.is)
          ∙ ap (λ (s : State). noting w.reads (out_passing code d on.rest by s)) (sym (is x))
          ∙ ap (λ rs. noting rs (out_passing code d on.rest by (state_at w' x))) (sym reads)
          ∙ ap (λ (fs : List Frame). noting w'.reads (out_passing code d fs by (state_at w' x))) (sym (behind ∙ ap (λ (fs : List Frame). drop 1 fs) on.is)),
    )

-- one frame less
pub fewer : (frame : Waiting) (top after : List Frame) (on : IsOnTop frame top) → after ≡ drop 1 top → length after < length top
fewer frame top after on behind =
    let is = behind ∙ ap (λ (fs : List Frame). drop 1 fs) on.is in
    subst (λ (fs : List Frame). length after < length fs) (sym on.is)
    (subst (λ (fs : List Frame). length fs < length (frame_of frame on.values on.locals ∷ on.rest)) (sym is) (omega arith))

pub stays : (code : Code) (here : List Frame) (by : Passing) (before : World) → Comes code by here before before (λ d x. out_passing code d here by (state_at before x))
stays code here by before = λ x a. (kept_same before x a, λ d m. refl)

-- ---- what is caught

-- what the first clause does that fits
caught_is : (code : Code) (d : Doing) (k : Kind) (is : List ℕ) → caught_at code d is k ≡ option_map (λ (c : Caught). catch_at code d c.body c.kind) (clause_at code k is)
caught_is code d k [] = refl
caught_is code d k (i ∷ is) = go (catch_of (node_at code i)) (caught_at code d is k) (clause_at code k is) (caught_is code d k is)
  where
    go : (x : Option Catch) (r : Option (Run Flow)) (q : Option Caught) → r ≡ option_map (λ (c : Caught). catch_at code d c.body c.kind) q
        → caught_or code d x r k ≡ option_map (λ (c : Caught). catch_at code d c.body c.kind) (clause_or code k x q)
    go None r q e = refl
    go (Some c) r q e = on (is_caught_by code c.caught (class_in_kind code k))
      where
        on : (b : Bool) → (if b then Some (catch_at code d c.body k) else r) ≡ option_map (λ (c : Caught). catch_at code d c.body c.kind) (if b then Some (record { kind = k; body = c.body }) else q)
        on true = refl
        on false = e

-- the first of some clauses
pub first_clause : (code : Code) (k : Kind) (is js : List ℕ) (i : ℕ) (x : Option Catch) → is ≡ i ∷ js → x ≡ catch_of (node_at code i) → clause_at code k is ≡ clause_or code k x (clause_at code k js)
first_clause code k is js i x at e = ap (clause_at code k) at ∙ ap (λ (y : Option Catch). clause_or code k y (clause_at code k js)) (sym e)

pub clause_fits : (code : Code) (k : Kind) (c : Catch) (rest : Option Caught) (class : Option ℕ) (b : Bool) → class ≡ class_in_kind code k → is_caught_by code c.caught class ≡ b
    → clause_or code k (Some c) rest ≡ (if b then Some (record { kind = k; body = c.body }) else rest)
clause_fits code k c rest class b e f =
    ap (λ (x : Option ℕ). if is_caught_by code c.caught x then Some (record { kind = k; body = c.body }) else rest) (sym e) ∙ ap (λ (x : Bool). if x then Some (record { kind = k; body = c.body }) else rest) f

same_clause : (code : Code) (w : Waiting) (vs : List Value) (ls : List Local) (e : Stop) → catch_in code (frame_of w vs ls) e ≡ clause_in code w e
same_clause code (kept.Catch cs) vs ls (Trapped k) = refl
same_clause code (kept.Catch cs) vs ls OutOfFuel = refl
same_clause code (kept.Catch cs) vs ls Stuck = refl
same_clause code w vs ls e = refl

-- a `try` whose clauses don't fit is passed by
pub uncaught : (code : Code) (cs : Nodes) (e : Stop) → clause_in code (kept.Catch cs) e ≡ None → PassesBy code (kept.Catch cs) (passing.Stop e) parts.Nothing
uncaught code cs (Trapped k) h = λ d vs ls fs s.
    ap (λ (m : Option (Run Flow)). out_flow code d fs (caught_by m (stop (Trapped k) s))) (caught_is code d k (listed code cs) ∙ ap (option_map (λ (c : Caught). catch_at code d c.body c.kind)) h)
    ∙ flow_stops code d fs (Trapped k) s
uncaught code cs OutOfFuel h = λ d vs ls fs s. flow_stops code d fs OutOfFuel s
uncaught code cs Stuck h = λ d vs ls fs s. flow_stops code d fs Stuck s

caught_here : (code : Code) (d : Doing) (f : Frame) (fs : List Frame) (e : Stop) (c : Caught) (s : State) → catch_in code f e ≡ Some c → stopped code d (f ∷ fs) e s ≡ out_flow code d fs (catch_at code d c.body c.kind s)
caught_here code d (frames.Catch cs) fs (Trapped k) c s h =
    ap (λ (m : Option (Run Flow)). out_flow code d fs (caught_by m (stop (Trapped k) s))) (caught_is code d k (listed code cs) ∙ ap (option_map (λ (c : Caught). catch_at code d c.body c.kind)) h)
caught_here code d (frames.Catch cs) fs OutOfFuel c s h = absurd (cc (h))
caught_here code d (frames.Catch cs) fs Stuck c s h = absurd (cc (h))
caught_here code d f fs e c s h = absurd (cc (h))

-- the clause's block comes next, and the frame has gone
pub catches : (code : Code) (e : Stop) (c : Caught) (frame : Waiting) (top after : List Frame) (w : World) (on : IsOnTop frame top) → after ≡ drop 1 top → clause_in code frame e ≡ Some c
    → Leads code (Ok (tasks.Catch c.kind c.body)) after w w (λ d x. stopped code d top e (state_at w x))
catches code e c frame top after w on less h = λ x a. (
  kept_same w x a,
  λ d m.
      ap (λ (fs : List Frame). noting w.reads (stopped code d fs e (state_at w x))) on.is
      ∙ ap (λ (o : Outcome Value). noting w.reads o) (caught_here code d (frame_of frame on.values on.locals) on.rest e c (state_at w x) (same_clause code frame on.values on.locals e ∙ h))
      ∙ ap (λ (fs : List Frame). noting w.reads (out_flow code d fs (catch_at code d c.body c.kind (state_at w x)))) (sym (less ∙ ap (λ (fs : List Frame). drop 1 fs) on.is)),
)

is_some : {A : Type 0} (x : A) → None ≡ Some x → ⊥
is_some x e = cc (e)

-- a frame that catches nothing isn't where the run goes on
pub not_caught : (code : Code) (e : Stop) (frame : Waiting) (top : List Frame) (on : IsOnTop frame top) → IsCaught code top e → clause_in code frame e ≡ None → ⊥
not_caught code e frame top on is none =
    let some = subst (λ (fs : List Frame). IsCaught code fs e) on.is is in is_some some.0 (sym none ∙ (sym (same_clause code frame on.values on.locals e) ∙ some.1))

-- an awaited outcome may be received by a frame that waits for it
pub has_passed : (code : Code) (by : Passing) (frame : Waiting) (fs : List Frame) → IsOnTop frame fs → MayAwait code frame by → HasPassed code by fs
has_passed code (passing.Flow flow) frame fs on m = tt
has_passed code (passing.Stop e) frame fs on m = subst (λ (gs : List Frame). IsCaught code gs e) (sym on.is) (m.0, same_clause code frame on.values on.locals e ∙ m.1)

pub all_passed : (code : Code) (by : Passing) (fs : List Frame) → fs ≡ [] → HasPassed code by fs
all_passed code (passing.Flow flow) fs is = tt
all_passed code (passing.Stop e) fs is = subst (λ (gs : List Frame). IsCaught code gs e) (sym is) tt

-- ---- what comes then

-- the rest of the run from there is the rest of the run
pub comes_then : (code : Code) (r : Result Task Halt) (fs there here : List Frame) (flow : Flow) (w middle before : World) → Comes code (passing.Flow flow) there middle before (λ d x. out_passing code d here (passing.Flow flow) (state_at before x))
    → Leads code r fs w middle (λ d x. out_flow code d there (give flow (state_at middle x))) → Leads code r fs w before (λ d x. out_flow code d here (give flow (state_at before x)))
comes_then code r fs there here flow w middle before e h =
    leads_same code r fs w middle before (λ d x. out_flow code d here (give flow (state_at before x))) (λ d x. out_flow code d there (give flow (state_at middle x))) e h

-- where no frame is left the run has ended
pub ends : (code : Code) (e : Stop) (fs : List Frame) (w : World) → fs ≡ [] → Answers code (Err (Ended e)) w w (λ d x. stopped code d fs e (state_at w x))
ends code e fs w is = λ x a. (kept_same w x a, λ d m. ap (λ (gs : List Frame). noting w.reads (stopped code d gs e (state_at w x))) is)

-- equal by another way
pub steps_same : (code : Code) (r : Result Step Halt) (task : Task) (fs gs : List Frame) (e : Stop) (w middle before : World) (o : Doing → Others → Outcome Value) → Leads code (Err (Ended e)) gs middle before o
    → StepsTo code r task fs w middle (λ d x. stopped code d gs e (state_at middle x)) → StepsTo code r task fs w before o
steps_same code (Ok More) task fs gs e w middle before o l h = leads_same code (Ok task) fs w middle before o (λ d x. stopped code d gs e (state_at middle x)) l h
steps_same code (Ok (Finished v)) task fs gs e w middle before o l h = λ x b. let y = h x b in let z = l x y.0.allowed in (kept_then before middle w x z.0 y.0, λ d m. z.1 d m ∙ y.1 d m)
steps_same code (Err (Ended f)) task fs gs e w middle before o l h = λ x b. let y = h x b in let z = l x y.0.allowed in (kept_then before middle w x z.0 y.0, λ d m. z.1 d m ∙ y.1 d m)
steps_same code (Err (Memory why)) task fs gs e w middle before o l h = tt

-- a step that ends well, by what is in it
pub well_is : (r : Result Step Halt) (s t : Step) → r ≡ Ok s → s ≡ t → r ≡ Ok t
well_is r s t e f = subst (λ (u : Step). r ≡ Ok u) f e

-- a step after those before
pub step_then : (code : Code) (r : Result Step Halt) (task there : Task) (fs gs : List Frame) (w middle before : World) (o : Doing → Others → Outcome Value) → Leads code (Ok there) gs middle before o
    → StepsTo code r task fs w middle (λ d x. resumed code d gs there (state_at middle x)) → StepsTo code r task fs w before o
step_then code (Ok More) task there fs gs w middle before o l h = leads_same code (Ok task) fs w middle before o (λ d x. resumed code d gs there (state_at middle x)) l h
step_then code (Ok (Finished v)) task there fs gs w middle before o l h = λ x b. let y = h x b in let z = l x y.0.allowed in (kept_then before middle w x z.0 y.0, λ d m. z.1 d m ∙ y.1 d m)
step_then code (Err (Ended f)) task there fs gs w middle before o l h = λ x b. let y = h x b in let z = l x y.0.allowed in (kept_then before middle w x z.0 y.0, λ d m. z.1 d m ∙ y.1 d m)
step_then code (Err (Memory why)) task there fs gs w middle before o l h = tt

-- the same of what is the same
pub step_is : (code : Code) (r r' : Result Step Halt) (task task' there there' : Task) (fs fs' gs : List Frame) (w w' before : World) → r ≡ r' → task ≡ task' → fs ≡ fs' → w ≡ w' → there ≡ there'
    → StepsTo code r' task' fs' w' before (λ d x. resumed code d gs there' (state_at before x)) → StepsTo code r task fs w before (λ d x. resumed code d gs there (state_at before x))
step_is code r r' task task' there there' fs fs' gs w w' before er et ef ew eh h =
    subst (λ (q : Result Step Halt). StepsTo code q task fs w before (λ d x. resumed code d gs there (state_at before x))) (sym er)
    (subst (λ (t : Task). StepsTo code r' t fs w before (λ d x. resumed code d gs there (state_at before x))) (sym et)
    (subst (λ (hs : List Frame). StepsTo code r' task' hs w before (λ d x. resumed code d gs there (state_at before x))) (sym ef)
    (subst (λ (v : World). StepsTo code r' task' fs' v before (λ d x. resumed code d gs there (state_at before x))) (sym ew)
    (subst (λ (t : Task). StepsTo code r' task' fs' w' before (λ d x. resumed code d gs t (state_at before x))) (sym eh) h))))

-- frames have been left, and then
pub ends_then : (code : Code) (r : Result Step Halt) (task : Task) (fs gs here : List Frame) (e : Stop) (w middle before : World) → Comes code (passing.Stop e) gs middle before (λ d x. out_passing code d here (passing.Stop e) (state_at before x))
    → StepsTo code r task fs w middle (λ d x. stopped code d gs e (state_at middle x)) → StepsTo code r task fs w before (λ d x. stopped code d here e (state_at before x))
ends_then code r task fs gs here e w middle before c h = steps_same code r task fs gs e w middle before (λ d x. stopped code d here e (state_at before x)) c h
