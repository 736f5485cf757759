-- How outcomes go through frames.
use Rattle.std.proofs.Common.{◌≡◌, List, [], ◌∷◌, ◌++◌, Option, Some, None, Result, Ok, Err, refl, sym, ap, ◌∙◌}
use Rattle.std.specs.Prelude.{reverse}
use Rattle.std.proofs.lemmas.List.{append_assoc, append-nil}
use Rattle.kr_value.specs.declared.value.Value.{Value}
use Rattle.kr_mean.specs.declared.kind.Stop.{Stop}
use Rattle.kr_mean.specs.declared.kind.Stop.TheVariants.{Stuck}
use Rattle.kr_mean.specs.Places.{SlotPlace}
use Rattle.kr_mean.specs.Steps.{State, Outcome, Run, after_reads, go_on, bind, give, say, stop}
use Rattle.kr_mean.specs.Thrown.{handled, caught_by}
use Rattle.kr_mean.specs.declared.flow.Flow.{Flow}
use Rattle.kr_mean.specs.Meaning.{returned, completed}
use Rattle.kr_code.specs.declared.code.Code.{Code}
use Rattle.kr_code.specs.declared.expression.Nodes.{Nodes}
use Rattle.kr_code.specs.Doing.{Doing, IsMeaning, values_at, constructed, caught_at}
use Rattle.kr_code.specs.Tables.{listed}
use Rattle.kr_code.specs.Steps.{store_initial}
use Rattle.kr_run_state.specs.declared.world.World.{World}
use Rattle.kr_run_state.specs.declared.world.Halt.{Halt}
use Rattle.kr_run_state.specs.declared.world.Halt.TheVariants.{Ended, Memory}
use Rattle.kr_run_state.specs.Noting.{noting, noted_once, with_read}
use Rattle.kr_run_state.specs.Worlds.{Others, Allows, Keeps, Agrees, state_at}
use Rattle.kr_run_state.proofs.Candidates.{kept_same, kept_then}
use Rattle.kr_run_frames.specs.Frame.{Frame}
use Rattle.kr_run_frames.specs.Frame as frames
use Rattle.kr_run_frames.specs.declared.task.Task.{Task}
use Rattle.kr_run_frames.specs.Frames.{continued, restored, cut_to, got, tested, led, done, applied, upwards, onto, caught, passed, missed, misled, out_value, out_flow, out_unit, stopped}
use Rattle.kr_run_frames.specs.Leads.{Leads}

-- ---- earlier reads

pub reads_twice : {A : Type 0} (a b : List SlotPlace) (o : Outcome A) → after_reads a (after_reads b o) ≡ after_reads (a ++ b) o
reads_twice {A} a b o = ap (λ (rs : List SlotPlace). mk rs) (sym (append_assoc a b o.reads))
  where
    mk : List SlotPlace → Outcome A
    mk rs = record { said = o.said; after = o.after; reads = rs }

pub continued_reads : {A B : Type 0} (rs : List SlotPlace) (o : Outcome A) (f : A → Run B) → continued (after_reads rs o) f ≡ after_reads rs (continued o f)
continued_reads {A} {B} rs o f = go o.said
  where
    go : (r : Result A Stop) → go_on r o.after (rs ++ o.reads) f ≡ after_reads rs (go_on r o.after o.reads f)
    go (Ok a) = sym (reads_twice rs o.reads (f a o.after))
    go (Err e) = refl

misled_reads : {A : Type 0} (stopping : Stop → State → Outcome Value) (rs : List SlotPlace) (o : Outcome A) → misled stopping (after_reads rs o) ≡ after_reads rs (misled stopping o)
misled_reads {A} stopping rs o = go o.said
  where
    go : (r : Result A Stop) → missed stopping r o.after (rs ++ o.reads) ≡ after_reads rs (missed stopping r o.after o.reads)
    go (Ok a) = sym (reads_twice rs o.reads (stopping Stuck o.after))
    go (Err e) = sym (reads_twice rs o.reads (stopping e o.after))

caught_reads : (code : Code) (d : Doing) (cs : Nodes) (rs : List SlotPlace) (o : Outcome Flow) → caught code d cs (after_reads rs o) ≡ after_reads rs (caught code d cs o)
caught_reads code d cs rs o = go (handled o.said (caught_at code d (listed code cs)))
  where
    go : (m : Option (Run Flow)) → caught_by m (after_reads rs o) ≡ after_reads rs (caught_by m o)
    go None = refl
    go (Some m) = sym (reads_twice rs o.reads (m o.after))

mutual
  pub value_reads : (code : Code) (d : Doing) (fs : List Frame) (rs : List SlotPlace) (o : Outcome Value) → out_value code d fs (after_reads rs o) ≡ after_reads rs (out_value code d fs o)
  value_reads code d [] rs o = refl
  value_reads code d (frames.Value f ∷ fs) rs o = ap (out_value code d fs) (continued_reads rs o (got code d f)) ∙ value_reads code d fs rs (continued o (got code d f))
  value_reads code d (frames.Test f ∷ fs) rs o = ap (out_flow code d fs) (continued_reads rs o (tested code d f)) ∙ flow_reads code d fs rs (continued o (tested code d f))
  value_reads code d (frames.Arguments goal ns vs ∷ fs) rs o =
      ap (λ (q : Outcome (List Value)). out_value code d fs (continued q (λ ws. applied code d goal (onto (reverse vs) ws)))) (continued_reads rs o (λ v. bind (values_at d (listed code ns)) (λ ws. give (v ∷ ws))))
      ∙ ap (out_value code d fs) (continued_reads rs (continued o (λ v. bind (values_at d (listed code ns)) (λ ws. give (v ∷ ws)))) (λ ws. applied code d goal (onto (reverse vs) ws)))
      ∙ value_reads code d fs rs (continued (continued o (λ v. bind (values_at d (listed code ns)) (λ ws. give (v ∷ ws)))) (λ ws. applied code d goal (onto (reverse vs) ws)))
  value_reads code d (frames.UpArguments up ns vs ∷ fs) rs o =
      ap (λ (q : Outcome (List Value)). out_unit code d fs (continued q (λ ws. upwards code d up (onto (reverse vs) ws)))) (continued_reads rs o (λ v. bind (values_at d (listed code ns)) (λ ws. give (v ∷ ws))))
      ∙ ap (out_unit code d fs) (continued_reads rs (continued o (λ v. bind (values_at d (listed code ns)) (λ ws. give (v ∷ ws)))) (λ ws. upwards code d up (onto (reverse vs) ws)))
      ∙ unit_reads code d fs rs (continued (continued o (λ v. bind (values_at d (listed code ns)) (λ ws. give (v ∷ ws)))) (λ ws. upwards code d up (onto (reverse vs) ws)))
  value_reads code d (frames.UpEnter up ns ∷ fs) rs o = ap (out_unit code d fs) (continued_reads rs o (λ v. bind (values_at d (listed code ns)) (upwards code d up))) ∙ unit_reads code d fs rs (continued o (λ v. bind (values_at d (listed code ns)) (upwards code d up)))
  value_reads code d (frames.Store field object ∷ fs) rs o = ap (out_unit code d fs) (continued_reads rs o (store_initial code field object)) ∙ unit_reads code d fs rs (continued o (store_initial code field object))
  value_reads code d (f ∷ fs) rs o = misled_reads (passed code d f (λ k t. stopped code d fs k t) (λ q. out_flow code d fs q)) rs o

  pub flow_reads : (code : Code) (d : Doing) (fs : List Frame) (rs : List SlotPlace) (o : Outcome Flow) → out_flow code d fs (after_reads rs o) ≡ after_reads rs (out_flow code d fs o)
  flow_reads code d (frames.Flow f ∷ fs) rs o = ap (out_flow code d fs) (continued_reads rs o (led code d f)) ∙ flow_reads code d fs rs (continued o (led code d f))
  flow_reads code d (frames.Scope n ∷ fs) rs o = flow_reads code d fs rs (cut_to n o)
  flow_reads code d (frames.Catch cs ∷ fs) rs o = ap (out_flow code d fs) (caught_reads code d cs rs o) ∙ flow_reads code d fs rs (caught code d cs o)
  flow_reads code d (frames.Leave void this locals ∷ fs) rs o =
      ap (λ (q : Outcome Value). out_value code d fs (restored this locals q)) (continued_reads rs o (returned void)) ∙ value_reads code d fs rs (restored this locals (continued o (returned void)))
  flow_reads code d (frames.Complete ∷ fs) rs o = ap (out_unit code d fs) (continued_reads rs o completed) ∙ unit_reads code d fs rs (continued o completed)
  flow_reads code d [] rs o = misled_reads (λ k t. stop k t) rs o
  flow_reads code d (f ∷ fs) rs o = misled_reads (passed code d f (λ k t. stopped code d fs k t) (λ q. out_flow code d fs q)) rs o

  pub unit_reads : (code : Code) (d : Doing) (fs : List Frame) (rs : List SlotPlace) (o : Outcome (Unit {0})) → out_unit code d fs (after_reads rs o) ≡ after_reads rs (out_unit code d fs o)
  unit_reads code d (frames.Unit f ∷ fs) rs o = ap (out_unit code d fs) (continued_reads rs o (λ u. done code d f)) ∙ unit_reads code d fs rs (continued o (λ u. done code d f))
  unit_reads code d (frames.Back this locals ∷ fs) rs o = unit_reads code d fs rs (restored this locals o)
  unit_reads code d (frames.Made object ∷ fs) rs o = ap (out_value code d fs) (continued_reads rs o (λ u. give object)) ∙ value_reads code d fs rs (continued o (λ u. give object))
  unit_reads code d (frames.Construct line object vs ∷ fs) rs o = ap (out_unit code d fs) (continued_reads rs o (λ u. constructed code d (listed code line) object vs)) ∙ unit_reads code d fs rs (continued o (λ u. constructed code d (listed code line) object vs))
  unit_reads code d [] rs o = misled_reads (λ k t. stop k t) rs o
  unit_reads code d (f ∷ fs) rs o = misled_reads (passed code d f (λ k t. stopped code d fs k t) (λ q. out_flow code d fs q)) rs o

pub noted_behind : (seen a b : List SlotPlace) → noted_once seen (a ++ b) ≡ noted_once (noted_once seen a) b
noted_behind seen [] b = refl
noted_behind seen (p ∷ a) b = noted_behind (with_read seen p) a b

-- ---- a step that gives something, or ends the run

pub outcome_is : {A : Type 0} (seen new : List SlotPlace) (o : Outcome A) (r : Result A Stop) (s : State) → noting seen o ≡ record { said = r; after = s; reads = new } → o ≡ after_reads o.reads (say r s)
outcome_is {A} seen new o r s h =
    ap (λ (q : Result A Stop). mk q o.after o.reads) (ap (λ (q : Outcome A). q.said) h)
    ∙ ap (λ (t : State). mk r t o.reads) (ap (λ (q : Outcome A). q.after) h)
    ∙ ap (λ (rs : List SlotPlace). mk r s rs) (sym (append-nil o.reads))
  where
    mk : Result A Stop → State → List SlotPlace → Outcome A
    mk q t rs = record { said = q; after = t; reads = rs }

noted_on : {A : Type 0} (seen new : List SlotPlace) (rs : List SlotPlace) (o : Outcome A) → noted_once seen rs ≡ new → noting seen (after_reads rs o) ≡ noting new o
noted_on {A} seen new rs o h = ap mk (noted_behind seen rs o.reads ∙ ap (λ (ps : List SlotPlace). noted_once ps o.reads) h)
  where
    mk : List SlotPlace → Outcome A
    mk ps = record { said = o.said; after = o.after; reads = ps }

-- its outcome goes on
pub came : {A B : Type 0} (out : Outcome A → Outcome B) (law : (rs : List SlotPlace) (o : Outcome A) → out (after_reads rs o) ≡ after_reads rs (out o)) (seen new : List SlotPlace) (o : Outcome A) (r : Result A Stop) (s : State)
    → noting seen o ≡ record { said = r; after = s; reads = new } → noting seen (out o) ≡ noting new (out (say r s))
came {A} {B} out law seen new o r s h =
    ap (λ (q : Outcome B). noting seen q) (ap out (outcome_is seen new o r s h) ∙ law o.reads (say r s))
    ∙ noted_on seen new o.reads (out (say r s)) (ap (λ (q : Outcome A). q.reads) h)

pub gave : {A : Type 0} (out : Outcome A → Outcome Value) (law : (rs : List SlotPlace) (o : Outcome A) → out (after_reads rs o) ≡ after_reads rs (out o)) (seen new : List SlotPlace) (o : Outcome A) (a : A) (s : State) → noting seen o ≡ record { said = Ok a; after = s; reads = new } → noting seen (out o) ≡ noting new (out (give a s))
gave out law seen new o a s h = came out law seen new o (Ok a) s h

pub gave_value : (code : Code) (d : Doing) (fs : List Frame) (seen new : List SlotPlace) (o : Outcome Value) (v : Value) (s : State) → noting seen o ≡ record { said = Ok v; after = s; reads = new } → noting seen (out_value code d fs o) ≡ noting new (out_value code d fs (give v s))
gave_value code d fs seen new o v s h = gave (out_value code d fs) (value_reads code d fs) seen new o v s h

-- ---- a run that stops

-- whatever waits is passed by
mutual
  pub value_stops : (code : Code) (d : Doing) (fs : List Frame) (e : Stop) (s : State) → out_value code d fs (stop e s) ≡ stopped code d fs e s
  value_stops code d (frames.Value f ∷ fs) e s = value_stops code d fs e s
  value_stops code d (frames.Test f ∷ fs) e s = flow_stops code d fs e s
  value_stops code d (frames.Arguments goal ns vs ∷ fs) e s = value_stops code d fs e s
  value_stops code d (frames.UpArguments up ns vs ∷ fs) e s = unit_stops code d fs e s
  value_stops code d (frames.UpEnter up ns ∷ fs) e s = unit_stops code d fs e s
  value_stops code d (frames.Store field object ∷ fs) e s = unit_stops code d fs e s
  value_stops code d fs e s = refl

  pub flow_stops : (code : Code) (d : Doing) (fs : List Frame) (e : Stop) (s : State) → out_flow code d fs (stop e s) ≡ stopped code d fs e s
  flow_stops code d (frames.Flow f ∷ fs) e s = flow_stops code d fs e s
  flow_stops code d (frames.Scope n ∷ fs) e s = flow_stops code d fs e _
  flow_stops code d (frames.Leave void this locals ∷ fs) e s = value_stops code d fs e _
  flow_stops code d (frames.Complete ∷ fs) e s = unit_stops code d fs e s
  flow_stops code d fs e s = refl

  pub unit_stops : (code : Code) (d : Doing) (fs : List Frame) (e : Stop) (s : State) → out_unit code d fs (stop e s) ≡ stopped code d fs e s
  unit_stops code d (frames.Unit f ∷ fs) e s = unit_stops code d fs e s
  unit_stops code d (frames.Construct line object vs ∷ fs) e s = unit_stops code d fs e s
  unit_stops code d (frames.Back this locals ∷ fs) e s = unit_stops code d fs e _
  unit_stops code d (frames.Made object ∷ fs) e s = value_stops code d fs e s
  unit_stops code d fs e s = refl

-- ---- both, for what the machine answers

-- an end of a part ends the run, in every meaning
pub halts : {A : Type 0} (code : Code) (h : Halt) (fs : List Frame) (w before : World) (out : Doing → Outcome A → Outcome Value)
    → ((d : Doing) (rs : List SlotPlace) (o : Outcome A) → out d (after_reads rs o) ≡ after_reads rs (out d o)) → ((d : Doing) (e : Stop) (s : State) → out d (stop e s) ≡ stopped code d fs e s)
    → (o : Others → Outcome A) → Agrees {A = A} (Err h) w before o → Leads code (Err h) fs w before (λ d x. out d (o x))
halts code (Ended e) fs w before out law stops o a = λ x y. let r = a x y in (r.0, λ d m. came (out d) (law d) before.reads w.reads (o x) (Err e) (state_at w x) r.1 ∙ ap (λ (q : Outcome Value). noting w.reads q) (stops d e (state_at w x)))
halts code (Memory why) fs w before out law stops o a = tt

pub value_halts : (code : Code) (h : Halt) (fs : List Frame) (w before : World) (o : Others → Outcome Value) → Agrees {A = Value} (Err h) w before o → Leads code (Err h) fs w before (λ d x. out_value code d fs (o x))
value_halts code h fs w before o a = halts code h fs w before (λ d q. out_value code d fs q) (λ d rs q. value_reads code d fs rs q) (λ d e s. value_stops code d fs e s) o a

pub unit_halts : (code : Code) (h : Halt) (fs : List Frame) (w before : World) (o : Others → Outcome (Unit {0})) → Agrees {A = Unit {0}} (Err h) w before o → Leads code (Err h) fs w before (λ d x. out_unit code d fs (o x))
unit_halts code h fs w before o a = halts code h fs w before (λ d q. out_unit code d fs q) (λ d rs q. unit_reads code d fs rs q) (λ d e s. unit_stops code d fs e s) o a

pub flow_halts : (code : Code) (h : Halt) (fs : List Frame) (w before : World) (o : Others → Outcome Flow) → Agrees {A = Flow} (Err h) w before o → Leads code (Err h) fs w before (λ d x. out_flow code d fs (o x))
flow_halts code h fs w before o a = halts code h fs w before (λ d q. out_flow code d fs q) (λ d rs q. flow_reads code d fs rs q) (λ d e s. flow_stops code d fs e s) o a

-- likewise where a value, or a flow, would have been the outcome
pub value_halts_then : {A : Type 0} (code : Code) (h : Halt) (fs : List Frame) (w before : World) (k : Doing → A → Run Value) (o : Others → Outcome A) → Agrees {A = A} (Err h) w before o → Leads code (Err h) fs w before (λ d x. out_value code d fs (continued (o x) (k d)))
value_halts_then code h fs w before k o a =
    halts code h fs w before (λ d q. out_value code d fs (continued q (k d))) (λ d rs q. ap (out_value code d fs) (continued_reads rs q (k d)) ∙ value_reads code d fs rs (continued q (k d))) (λ d e s. value_stops code d fs e s) o a

pub flow_halts_then : {A : Type 0} (code : Code) (h : Halt) (fs : List Frame) (w before : World) (k : Doing → A → Run Flow) (o : Others → Outcome A) → Agrees {A = A} (Err h) w before o → Leads code (Err h) fs w before (λ d x. out_flow code d fs (continued (o x) (k d)))
flow_halts_then code h fs w before k o a =
    halts code h fs w before (λ d q. out_flow code d fs (continued q (k d))) (λ d rs q. ap (out_flow code d fs) (continued_reads rs q (k d)) ∙ flow_reads code d fs rs (continued q (k d))) (λ d e s. flow_stops code d fs e s) o a

-- equal by another way, where that is allowed
pub leads_same : (code : Code) (r : Result Task Halt) (fs : List Frame) (w middle before : World) (o o' : Doing → Others → Outcome Value)
    → ((x : Others) → Allows middle x → Keeps before middle x × ((d : Doing) → IsMeaning code d → noting before.reads (o d x) ≡ noting middle.reads (o' d x)))
    → Leads code r fs w middle o' → Leads code r fs w before o
leads_same code (Ok task) fs w middle before o o' e h = λ x a. let y = h x a in let z = e x y.0.allowed in (kept_then before middle w x z.0 y.0, λ d m. z.1 d m ∙ y.1 d m)
leads_same code (Err (Ended end)) fs w middle before o o' e h = λ x a. let y = h x a in let z = e x y.0.allowed in (kept_then before middle w x z.0 y.0, λ d m. z.1 d m ∙ y.1 d m)
leads_same code (Err (Memory why)) fs w middle before o o' e h = tt

-- equal outcomes
pub leads_alike : (code : Code) (r : Result Task Halt) (fs : List Frame) (w before : World) (o o' : Doing → Others → Outcome Value)
    → ((x : Others) (d : Doing) → IsMeaning code d → o d x ≡ o' d x)
    → Leads code r fs w before o' → Leads code r fs w before o
leads_alike code r fs w before o o' e h = leads_same code r fs w before before o o' (λ x a. (kept_same before x a, λ d m. ap (λ (q : Outcome Value). noting before.reads q) (e x d m))) h
