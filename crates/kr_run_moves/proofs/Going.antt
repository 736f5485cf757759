-- How what is known at once goes on.
use Rattle.std.proofs.Common.{◌≡◌, ℕ, List, [], ◌∷◌, ◌++◌, Result, Ok, Err, refl, sym, ap, subst, ◌∙◌}
use Rattle.std.proofs.lemmas.List.{append-nil}
use Rattle.kr_value.specs.declared.value.Value.{Value}
use Rattle.kr_mean.specs.declared.kind.Stop.{Stop}
use Rattle.kr_mean.specs.Places.{SlotPlace}
use Rattle.kr_mean.specs.Steps.{State, Outcome, Run, after_reads, go_on, bind, give, tick}
use Rattle.kr_value.specs.declared.value.Value.TheVariants.{Null}
use Rattle.kr_mean.specs.declared.flow.Flow.{Flow}
use Rattle.kr_mean.specs.declared.flow.Flow.TheVariants.{Next, Broke, Continued, Left, Gave}
use Rattle.kr_mean.specs.Meaning.{then_on}
use Rattle.kr_code.specs.declared.code.Code.{Code}
use Rattle.kr_code.specs.declared.expression.Nodes.{Nodes}
use Rattle.kr_code.specs.declared.expression.Expression.{Expression}
use Rattle.kr_code.specs.Tables.{expression_of, listed, node_at}
use Rattle.kr_code.specs.Doing.{Doing, IsMeaning, all_at, updates_at, value_done, values_at}
use Rattle.kr_run_state.specs.declared.world.World.{World}
use Rattle.kr_run_state.specs.declared.world.Halt.{Halt}
use Rattle.kr_run_state.specs.Noting.{noting}
use Rattle.kr_run_state.specs.Worlds.{Agrees, Others, Allows, Keeps, state_at}
use Rattle.kr_run_state.proofs.Candidates.{kept_same}
use Rattle.kr_run_frames.specs.Frame.{Frame}
use Rattle.kr_run_frames.specs.declared.task.Task.{Task}
use Rattle.kr_run_frames.specs.Frames.{continued, out_value, out_flow, resumed}
use Rattle.kr_run_frames.specs.Leads.{Leads}
use Rattle.kr_run_frames.proofs.Outcomes.{continued_reads, flow_halts_then, flow_reads, gave, leads_alike, leads_same, value_halts_then, value_reads}
use Rattle.kr_run_moves.proofs.Moves.{given_then, mapped}
use Rattle.kr_run_known.proofs.Going.{none_listed}

-- a part gives something, and then a value comes
pub value_then : {A : Type 0} (code : Code) (r : Result Task Halt) (fs gs : List Frame) (w then before : World) (m : Doing → Run A) (k : Doing → A → Run Value) (v : A)
    → ((x : Others) → Allows then x → Keeps before then x × ((d : Doing) → IsMeaning code d → noting before.reads (m d (state_at before x)) ≡ record { said = Ok v; after = state_at then x; reads = then.reads }))
    → Leads code r gs w then (λ d x. out_value code d fs (k d v (state_at then x))) → Leads code r gs w before (λ d x. out_value code d fs (bind (m d) (k d) (state_at before x)))
unfolding bind
value_then code r fs gs w then before m k v h g =
    leads_same code r gs w then before (λ d x. out_value code d fs (bind (m d) (k d) (state_at before x))) (λ d x. out_value code d fs (k d v (state_at then x)))
    (λ x a. let y = h x a in (y.0, λ d i. gave (λ q. out_value code d fs (continued q (k d))) (λ rs q. ap (out_value code d fs) (continued_reads rs q (k d)) ∙ value_reads code d fs rs (continued q (k d))) before.reads then.reads (m d (state_at before x)) v (state_at then x) (y.1 d i)))
    g

-- a part gives something, and then a statement leads on
pub flow_then : {A : Type 0} (code : Code) (r : Result Task Halt) (fs gs : List Frame) (w then before : World) (m : Doing → Run A) (k : Doing → A → Run Flow) (v : A)
    → ((x : Others) → Allows then x → Keeps before then x × ((d : Doing) → IsMeaning code d → noting before.reads (m d (state_at before x)) ≡ record { said = Ok v; after = state_at then x; reads = then.reads }))
    → Leads code r gs w then (λ d x. out_flow code d fs (k d v (state_at then x))) → Leads code r gs w before (λ d x. out_flow code d fs (bind (m d) (k d) (state_at before x)))
unfolding bind
flow_then code r fs gs w then before m k v h g =
    leads_same code r gs w then before (λ d x. out_flow code d fs (bind (m d) (k d) (state_at before x))) (λ d x. out_flow code d fs (k d v (state_at then x)))
    (λ x a. let y = h x a in (y.0, λ d i. gave (λ q. out_flow code d fs (continued q (k d))) (λ rs q. ap (out_flow code d fs) (continued_reads rs q (k d)) ∙ flow_reads code d fs rs (continued q (k d))) before.reads then.reads (m d (state_at before x)) v (state_at then x) (y.1 d i)))
    g

-- a world that was as it was
pub leads_behind : (code : Code) (r : Result Task Halt) (gs : List Frame) (w then before : World) (o : World → Doing → Others → Outcome Value) → then ≡ before → Leads code r gs w then (o then) → Leads code r gs w before (o before)
leads_behind code r gs w then before o e h = subst (λ (u : World). Leads code r gs w u (o u)) e h

-- a world that is as it was
pub leads_from : (code : Code) (r : Result Task Halt) (gs : List Frame) (then before : World) (o : World → Doing → Others → Outcome Value) → then ≡ before → Leads code r gs then then (o then) → Leads code r gs then before (o before)
leads_from code r gs then before o e h = subst (λ (u : World). Leads code r gs then u (o u)) e h

-- a statement comes next
pub leads_here : (code : Code) (task : Task) (fs : List Frame) (w : World) → Leads code (Ok task) fs w w (λ d x. resumed code d fs task (state_at w x))
leads_here code task fs w = λ x a. (kept_same w x a, λ d m. refl)

-- ---- steps that give something, and then go on

-- a unit of fuel, and then something
pub ticked : {A : Type 0} (out : Outcome A → Outcome Value) → ((rs : List SlotPlace) (o : Outcome A) → out (after_reads rs o) ≡ after_reads rs (out o)) → (seen new : List SlotPlace) (n : Run A) (s t : State) (v : Value)
    → noting seen (bind tick (λ u. give Null) s) ≡ record { said = Ok v; after = t; reads = new } → noting seen (out (bind tick (λ u. n) s)) ≡ noting new (out (n t))
ticked out law seen new n s t v h =
    ap (λ q. noting seen (out q)) (sym (given_then tick Null (λ x. n) s))
    ∙ gave (λ q. out (continued q (λ x. n))) (λ rs q. ap out (continued_reads rs q (λ x. n)) ∙ law rs (continued q (λ x. n))) seen new (bind tick (λ u. give Null) s) v t h

pub no_value_tick : (code : Code) (h : Halt) (fs : List Frame) (w before : World) (n : Doing → Run Value)
    → Agrees {A = Value} (Err h) w before (λ x. bind tick (λ u. give Null) (state_at before x)) → Leads code (Err h) fs w before (λ d x. out_value code d fs (bind tick (λ u. n d) (state_at before x)))
no_value_tick code h fs w before n a =
    leads_alike code (Err h) fs w before _ (λ d x. out_value code d fs (continued (bind tick (λ u. give Null) (state_at before x)) (λ v. n d)))
    (λ x d m. ap (λ (q : Outcome Value). out_value code d fs q) (sym (given_then tick Null (λ v. n d) (state_at before x))))
    (value_halts_then code h fs w before (λ d v. n d) (λ x. bind tick (λ u. give Null) (state_at before x)) a)

pub no_flow_tick : (code : Code) (h : Halt) (fs : List Frame) (w before : World) (n : Doing → Run Flow)
    → Agrees {A = Value} (Err h) w before (λ x. bind tick (λ u. give Null) (state_at before x)) → Leads code (Err h) fs w before (λ d x. out_flow code d fs (bind tick (λ u. n d) (state_at before x)))
no_flow_tick code h fs w before n a =
    leads_alike code (Err h) fs w before _ (λ d x. out_flow code d fs (continued (bind tick (λ u. give Null) (state_at before x)) (λ v. n d)))
    (λ x d m. ap (λ (q : Outcome Flow). out_flow code d fs q) (sym (given_then tick Null (λ v. n d) (state_at before x))))
    (flow_halts_then code h fs w before (λ d v. n d) (λ x. bind tick (λ u. give Null) (state_at before x)) a)

-- a step ends the run, and no statement leads on
pub no_flow : (code : Code) (h : Halt) (fs : List Frame) (w before : World) (m : Run Value) (k : Doing → Value → Run Flow)
    → Agrees {A = Value} (Err h) w before (λ x. m (state_at before x)) → Leads code (Err h) fs w before (λ d x. out_flow code d fs (bind m (k d) (state_at before x)))
unfolding bind
no_flow code h fs w before m k a = flow_halts_then code h fs w before k (λ x. m (state_at before x)) a

-- likewise, and no value comes
pub no_value : (code : Code) (h : Halt) (fs : List Frame) (w before : World) (m : Run Value) (k : Doing → Value → Run Value)
    → Agrees {A = Value} (Err h) w before (λ x. m (state_at before x)) → Leads code (Err h) fs w before (λ d x. out_value code d fs (bind m (k d) (state_at before x)))
unfolding bind
no_value code h fs w before m k a = value_halts_then code h fs w before k (λ x. m (state_at before x)) a

-- ---- a node, after its unit

pub node_halts : (code : Code) (h : Halt) (fs : List Frame) (w before : World) (i : ℕ)
    → Agrees {A = Value} (Err h) w before (λ x. bind tick (λ u. give Null) (state_at before x)) → Leads code (Err h) fs w before (λ d x. out_value code d fs (d.value i (state_at before x)))
node_halts code h fs w before i a =
    leads_alike code (Err h) fs w before (λ d x. out_value code d fs (d.value i (state_at before x))) (λ d x. out_value code d fs (bind tick (λ u. value_done code d (expression_of (node_at code i))) (state_at before x)))
    (λ x d m. ap (λ (q : Outcome Value). out_value code d fs q) (m.value_is i (state_at before x)))
    (no_value_tick code h fs w before (λ (d : Doing). value_done code d (expression_of (node_at code i))) a)

pub node_then : (code : Code) (r : Result Task Halt) (fs gs : List Frame) (w then before : World) (i : ℕ) (e : Expression) (v : Value) → expression_of (node_at code i) ≡ e
    → Agrees (Ok v) then before (λ x. bind tick (λ u. give Null) (state_at before x))
    → Leads code r gs w then (λ d x. out_value code d fs (value_done code d e (state_at then x))) → Leads code r gs w before (λ d x. out_value code d fs (d.value i (state_at before x)))
node_then code r fs gs w then before i e v is h g =
    leads_same code r gs w then before (λ d x. out_value code d fs (d.value i (state_at before x))) (λ d x. out_value code d fs (value_done code d e (state_at then x)))
    (λ x a. let y = h x a in (
      y.0,
      λ d m. ap (λ (q : Outcome Value). noting before.reads (out_value code d fs q)) (m.value_is i (state_at before x) ∙ ap (λ (f : Expression). bind tick (λ u. value_done code d f) (state_at before x)) is)
          ∙ ticked (out_value code d fs) (value_reads code d fs) before.reads then.reads (value_done code d e) (state_at before x) (state_at then x) v y.1,
    ))
    g

-- ---- lists

-- the only argument
pub one_value : {B : Type 0} (d : Doing) (i : ℕ) (k : List Value → Run B) (s : State) → bind (values_at d (i ∷ [])) k s ≡ bind (d.value i) (λ v. k (v ∷ [])) s
unfolding bind
one_value d i k s = mapped (d.value i) (λ v. v ∷ []) k s

pub one_listed : (code : Code) (ns others : Nodes) (i : ℕ) → listed code ns ≡ i ∷ listed code others → others.count ≡ 0 → listed code ns ≡ i ∷ []
one_listed code ns others i e zero = e ∙ ap (λ (is : List ℕ). i ∷ is) (none_listed code others zero)

-- nothing runs after the last statement
pub last_flow : (m : Run Flow) (s : State) → bind m (λ flow. then_on flow (give Next)) s ≡ m s
unfolding bind
last_flow m s = go (m s).said
  where
    mk : Result Flow Stop → List SlotPlace → Outcome Flow
    mk r rs = record { said = r; after = (m s).after; reads = rs }

    on : (flow : Flow) → mk (Ok flow) ((m s).reads ++ []) ≡ mk (Ok flow) (m s).reads
    on flow = ap (mk (Ok flow)) (append-nil (m s).reads)

    go : (r : Result Flow Stop) → go_on r (m s).after (m s).reads (λ flow. then_on flow (give Next)) ≡ mk r (m s).reads
    go (Ok Next) = on Next
    go (Ok Broke) = on Broke
    go (Ok Continued) = on Continued
    go (Ok Left) = on Left
    go (Ok (Gave v)) = on (Gave v)
    go (Err e) = refl

pub last_one : (code : Code) (d : Doing) (i : ℕ) (ns : Nodes) (s : State) → ns.count ≡ 0 → all_at d (i ∷ listed code ns) s ≡ d.exec i s
last_one code d i ns s zero = ap (λ (is : List ℕ). all_at d (i ∷ is) s) (none_listed code ns zero) ∙ last_flow (d.exec i) s

-- no update comes after the last one
pub last_update : (code : Code) (d : Doing) (i : ℕ) (ns : Nodes) (s : State) → ns.count ≡ 0 → updates_at d (i ∷ listed code ns) s ≡ bind (d.value i) (λ v. give Next) s
last_update code d i ns s zero = ap (λ (is : List ℕ). updates_at d (i ∷ is) s) (none_listed code ns zero)
