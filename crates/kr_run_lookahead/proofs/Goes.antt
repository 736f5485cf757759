-- How a value and a flow pass frames.
use Rattle.std.proofs.Common.{◌≡◌, ℕ, zero, suc, ◌+◌, ◌≤◌, List, [], ◌∷◌, length, drop, take, Ok, refl, sym, ap, subst, arith, ◌∙◌}
use Rattle.std.specs.Prelude.{map, Option, Some, None, IfSome}
use Rattle.kr_value.specs.declared.value.Value.{Value}
use Rattle.kr_mean.specs.declared.flow.Flow.{Flow}
use Rattle.kr_mean.specs.Places.{SlotPlace}
use Rattle.kr_mean.specs.Steps.{Outcome, give}
use Rattle.kr_mean.specs.Steps as steps
use Rattle.kr_code.specs.declared.code.Code.{Code}
use Rattle.kr_code.specs.Doing.{Doing, IsMeaning}
use Rattle.kr_run_state.specs.declared.world.Local.{Local}
use Rattle.kr_run_state.specs.declared.action.Action.{Action}
use Rattle.kr_run_state.specs.declared.world.World.{World}
use Rattle.kr_run_state.specs.Actions.{acted}
use Rattle.kr_run_state.specs.Noting.{noted_once, noting}
use Rattle.kr_run_state.specs.Shown.{local_of}
use Rattle.kr_run_state.specs.Worlds.{state_of}
use Rattle.kr_run_known.specs.declared.known.Known.{Known}
use Rattle.kr_run_known.specs.Knowing.{Knows, fuelled}
use Rattle.kr_run_frames.specs.Frame.{Frame}
use Rattle.kr_run_frames.specs.Frame as frames
use Rattle.kr_run_frames.specs.Frames.{continued, got, led, out_flow, out_value, tested}
use Rattle.kr_run_frames.specs.declared.frame.ValueFrame.{ValueFrame}
use Rattle.kr_run_frames.specs.declared.frame.TestFrame.{TestFrame}
use Rattle.kr_run_frames.specs.declared.frame.FlowFrame.{FlowFrame}
use Rattle.kr_run_frames.proofs.Outcomes.{flow_reads, gave, gave_value}
use Rattle.kr_run_lookahead.specs.Ahead.{IsSpent, IsTold, TellsFrom, TellsOf, comes, flows}
use Rattle.kr_run_lookahead.specs.declared.flows.Led.{Led}
use Rattle.kr_run_lookahead.specs.Flows.{KnowsFlow}

-- ---- one frame

pub value_passes : (code : Code) (d : Doing) (w : World) (f : ValueFrame) (fs : List Frame) (v : Value) (k : Known) → Knows code w w.fuel k (λ e. got code e f v) → IsMeaning code d → comes code d (frames.Value f ∷ fs) w v ≡ comes code d fs (record w { fuel = k.fuel }) k.value
value_passes code d w f fs v k h i = gave_value code d fs w.reads w.reads (continued (give v (state_of w)) (got code d f)) k.value (fuelled w k.fuel None) (h None tt d i)

pub test_passes : (code : Code) (d : Doing) (w : World) (f : TestFrame) (fs : List Frame) (v : Value) (l : Led) → KnowsFlow code w w.fuel l (λ e. tested code e f v) → IsMeaning code d → comes code d (frames.Test f ∷ fs) w v ≡ flows code d fs (record w { fuel = l.fuel }) l.flow
test_passes code d w f fs v l h i = gave (out_flow code d fs) (flow_reads code d fs) w.reads w.reads (continued (give v (state_of w)) (tested code d f)) l.flow (fuelled w l.fuel None) (h None tt d i)

pub flow_passes : (code : Code) (d : Doing) (w : World) (f : FlowFrame) (fs : List Frame) (flow : Flow) (l : Led) → KnowsFlow code w w.fuel l (λ e. led code e f flow) → IsMeaning code d → flows code d (frames.Flow f ∷ fs) w flow ≡ flows code d fs (record w { fuel = l.fuel }) l.flow
flow_passes code d w f fs flow l h i = gave (out_flow code d fs) (flow_reads code d fs) w.reads w.reads (continued (give flow (state_of w)) (led code d f)) l.flow (fuelled w l.fuel None) (h None tt d i)

take_mapped : (n : ℕ) (ls : List Local) → take n (map local_of ls) ≡ map local_of (take n ls)
take_mapped zero [] = refl
take_mapped zero (l ∷ ls) = refl
take_mapped (suc n) [] = refl
take_mapped (suc n) (l ∷ ls) = ap (λ (ks : List steps.Local). local_of l ∷ ks) (take_mapped n ls)

pub scope_passes : (code : Code) (d : Doing) (w : World) (n : ℕ) (ls : List Local) (fs : List Frame) (flow : Flow) → ls ≡ take n w.locals.items → flows code d (frames.Scope n ∷ fs) w flow ≡ noting w.reads (out_flow code d fs (give flow (record (state_of w) { locals = map local_of ls })))
scope_passes code d w n ls fs flow e = ap (λ (ks : List steps.Local). noting w.reads (out_flow code d fs (give flow (record (state_of w) { locals = ks })))) (take_mapped n w.locals.items ∙ ap (map local_of) (sym e))

-- ---- frames one below another

pub drop_next : {X : Type 0} (n : ℕ) (xs ys : List X) (y : X) → drop n xs ≡ y ∷ ys → drop (n + 1) xs ≡ ys
drop_next {X} n xs ys y e = subst (λ m. drop m xs ≡ ys) one (go n xs e)
  where
    one : suc n ≡ n + 1
    one = omega arith

    go : (m : ℕ) (zs : List X) → drop m zs ≡ y ∷ ys → drop (suc m) zs ≡ ys
    go zero [] h = absurd (cc (h))
    go zero (z ∷ zs) h = cc (h)
    go (suc m) [] h = absurd (cc (h))
    go (suc m) (z ∷ zs) h = go m zs h

pub none_below : {X : Type 0} (n : ℕ) (xs : List X) → length xs ≤ n → drop n xs ≡ []
none_below zero [] h = refl
none_below zero (x ∷ xs) h = absurd (omega (arith, h))
none_below (suc n) [] h = refl
none_below (suc n) (x ∷ xs) h = none_below n xs (omega (arith, h))

pub spent_then : (a b c : World) → IsSpent a b → IsSpent b c → IsSpent a c
spent_then a b c h g = record { rest = g.rest ∙ ap (λ (w : World). record w { fuel = c.fuel; locals = c.locals }) h.rest }

pub told_as : (v : Value) (reads : List SlotPlace) (o q : Outcome Value) → o ≡ q → IsTold v reads q → IsTold v reads o
told_as v reads o q e h = subst (λ (p : Outcome Value). IsTold v reads p) (sym e) h

-- ---- known values

pub told_noted : (v : Value) (seen : List SlotPlace) (o : Outcome Value) → IsTold v [] o → IsTold v seen (noting seen o)
told_noted v seen o h = record { said = h.said; reads_are = ap (noted_once seen) h.reads_are }

pub same_reads : (a b : World) → IsSpent a b → b.reads ≡ a.reads
same_reads a b h = ap (λ (w : World). w.reads) h.rest

pub told_there : (v : Value) (a b : World) (o : Outcome Value) → IsSpent a b → IsTold v b.reads o → IsTold v a.reads o
told_there v a b o s h = record { said = h.said; reads_are = h.reads_are ∙ same_reads a b s }

-- a flow, after a value
pub flow_told : (code : Code) (fs gs hs ks : List Frame) (f : TestFrame) (a w z : World) (given value : Value) (flow : Flow) (r : Option Value)
    → ((d : Doing) → IsMeaning code d → comes code d fs a given ≡ comes code d gs w value) → IsSpent a w → gs ≡ frames.Test f ∷ hs → ks ≡ hs
    → ((d : Doing) (fs : List Frame) → IsMeaning code d → comes code d (frames.Test f ∷ fs) w value ≡ flows code d fs z flow) → IsSpent w z
    → IfSome r (λ v. TellsOf code ks z flow v) → IfSome r (λ v. TellsFrom code fs a given v)
flow_told code fs gs hs ks f a w z given value flow None h s e k p t g = tt
flow_told code fs gs hs ks f a w z given value flow (Some v) h s e k p t g = λ d i.
    told_there v a z (comes code d fs a given) (spent_then a w z s t)
    (told_as v z.reads (comes code d fs a given) (flows code d ks z flow)
    (h d i ∙ (ap (λ (xs : List Frame). comes code d xs w value) e ∙ (p d hs i ∙ ap (λ (xs : List Frame). flows code d xs z flow) (sym k))))
    (g d i))

-- one more frame is passed
pub value_on : (code : Code) (fs gs hs ks : List Frame) (f : Frame) (a w z : World) (given value next : Value)
    → ((d : Doing) → IsMeaning code d → comes code d fs a given ≡ comes code d gs w value) → gs ≡ f ∷ hs → ks ≡ hs
    → ((d : Doing) (fs : List Frame) → IsMeaning code d → comes code d (f ∷ fs) w value ≡ comes code d fs z next)
    → (d : Doing) → IsMeaning code d → comes code d fs a given ≡ comes code d ks z next
value_on code fs gs hs ks f a w z given value next h e k p = λ d i.
    h d i ∙ (ap (λ (xs : List Frame). comes code d xs w value) e ∙ (p d hs i ∙ ap (λ (xs : List Frame). comes code d xs z next) (sym k)))

pub flow_on : (code : Code) (fs gs hs ks : List Frame) (f : Frame) (a w z : World) (flow next then : Flow)
    → ((d : Doing) → IsMeaning code d → flows code d fs a flow ≡ flows code d gs w next) → gs ≡ f ∷ hs → ks ≡ hs
    → ((d : Doing) (fs : List Frame) → IsMeaning code d → flows code d (f ∷ fs) w next ≡ flows code d fs z then)
    → (d : Doing) → IsMeaning code d → flows code d fs a flow ≡ flows code d ks z then
flow_on code fs gs hs ks f a w z flow next then h e k p = λ d i.
    h d i ∙ (ap (λ (xs : List Frame). flows code d xs w next) e ∙ (p d hs i ∙ ap (λ (xs : List Frame). flows code d xs z then) (sym k)))

-- a value that was read
pub read_told : (code : Code) (fs : List Frame) (a w z : World) (action : Action) (given : Value) (r : Option Value)
    → noting a.reads (acted code action (state_of a)) ≡ record { said = Ok given; after = state_of w; reads = w.reads } → IsSpent w z
    → IfSome r (λ v. TellsFrom code fs w given v) → IfSome r (λ v. (d : Doing) → IsMeaning code d → IsTold v z.reads (noting a.reads (out_value code d fs (acted code action (state_of a)))))
read_told code fs a w z action given None h s g = tt
read_told code fs a w z action given (Some v) h s g = λ d i.
    let o = noting a.reads (out_value code d fs (acted code action (state_of a))) in
    let t = told_as v w.reads o (comes code d fs w given) (gave_value code d fs a.reads w.reads (acted code action (state_of a)) given (state_of w) h) (g d i) in
    record { said = t.said; reads_are = t.reads_are ∙ sym (same_reads w z s) }
