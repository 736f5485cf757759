-- How a value leaves bodies.
use Rattle.std.proofs.Common.{◌≡◌, ℕ, suc, false, List, [], ◌∷◌, take, refl, sym, ap, subst, ◌∙◌}
use Rattle.std.specs.Prelude.{map, Option, Some, None, IfSome}
use Rattle.kr_value.specs.declared.value.Value as v
use Rattle.kr_mean.specs.declared.flow.Flow.{Flow}
use Rattle.kr_mean.specs.declared.flow.Flow.TheVariants as ways
use Rattle.kr_mean.specs.Steps.{Outcome, Run, State, after_reads, bind, give, go_on, tick, tick_at}
use Rattle.kr_code.specs.declared.code.Code.{Code}
use Rattle.kr_code.specs.declared.expression.Expression.{Expression}
use Rattle.kr_code.specs.declared.expression.Expression.TheVariants as expressions
use Rattle.kr_code.specs.declared.statement.Statement.{Statement}
use Rattle.kr_code.specs.declared.statement.Statement.TheVariants as statements
use Rattle.kr_code.specs.Doing.{Doing, IsMeaning, flow_of, statement_done, value_done}
use Rattle.kr_code.specs.Tables.{expression_of, node_at, statement_of}
use Rattle.kr_run_state.specs.declared.world.World.{World}
use Rattle.kr_run_state.specs.Worlds.{state_of}
use Rattle.kr_run_state.specs.Shown.{local_of}
use Rattle.kr_run_known.specs.declared.known.Known.{Known}
use Rattle.kr_run_frames.specs.Frame.{Frame}
use Rattle.kr_run_frames.specs.Kept.{IsOnTop, frame_of}
use Rattle.kr_run_frames.specs.Frames.{out_flow, tested}
use Rattle.kr_run_frames.specs.declared.frame.TestFrame.{TestFrame}
use Rattle.kr_run_frames.specs.declared.frame.Waiting.{Waiting}
use Rattle.kr_run_frames.specs.declared.frame.Waiting.TheVariants as kept
use Rattle.kr_run_lookahead.specs.Ahead.{IsSpent, TellsOf, flows}
use Rattle.kr_run_lookahead.specs.Leaving.{PassesOn, TellsAt, out_point}
use Rattle.kr_run_lookahead.specs.declared.leaving.Point.{Point}
use Rattle.kr_run_lookahead.specs.declared.leaving.Point.TheVariants as points
use Rattle.kr_run_lookahead.specs.declared.leaving.Stand.{Stand}
use Rattle.kr_run_lookahead.proofs.Goes.{told_as, told_noted, told_there}

-- ---- one frame

pub passes_as : (code : Code) (w x : Waiting) (a b : Stand) → w ≡ x → PassesOn code x a b → PassesOn code w a b
passes_as code w x a b e h = subst (λ (y : Waiting). PassesOn code y a b) (sym e) h

pub scope_on : (code : Code) (n fuel : ℕ) (u : v.Value) → PassesOn code (kept.Scope n) (record { point = points.Gives u; fuel = fuel }) (record { point = points.Gives u; fuel = fuel })
scope_on code n fuel u = λ d vs ls fs s i e. (record s { locals = take n s.locals }, e, refl)

pub leave_on : (code : Code) (this : v.Value) (k fuel : ℕ) (u : v.Value) → PassesOn code (kept.Leave false this k) (record { point = points.Gives u; fuel = fuel }) (record { point = points.Comes u; fuel = fuel })
leave_on code this k fuel u = λ d vs ls fs s i e. (record s { this_value = this; locals = map local_of ls }, e, refl)

pub test_on : (code : Code) (f : TestFrame) (fuel : ℕ) (u : v.Value) (k : Known) → ((d : Doing) (s : State) → IsMeaning code d → s.fuel ≡ fuel → tested code d f u s ≡ give (ways.Gave k.value) (record s { fuel = k.fuel }))
    → PassesOn code (kept.Test f) (record { point = points.Comes u; fuel = fuel }) (record { point = points.Gives k.value; fuel = k.fuel })
test_on code f fuel u k h = λ d vs ls fs s i e. (record s { fuel = k.fuel }, refl, ap (λ (o : Outcome Flow). out_flow code d fs (after_reads [] o)) (h d s i e))

pub holds_as : (code : Code) (f : TestFrame) (g : TestFrame) (u x : v.Value) (fuel : ℕ) (r : Option Known) → f ≡ g → u ≡ x
    → IfSome r (λ k. (d : Doing) (s : State) → IsMeaning code d → s.fuel ≡ fuel → tested code d g x s ≡ give (ways.Gave k.value) (record s { fuel = k.fuel }))
    → IfSome r (λ k. (d : Doing) (s : State) → IsMeaning code d → s.fuel ≡ fuel → tested code d f u s ≡ give (ways.Gave k.value) (record s { fuel = k.fuel }))
holds_as code f g u x fuel None e h p = tt
holds_as code f g u x fuel (Some k) e h p = λ d s i q. ap (λ (t : TestFrame). tested code d t u s) e ∙ (ap (λ (y : v.Value). tested code d g y s) h ∙ p d s i q)

pub point_as : (code : Code) (w : Waiting) (a : Stand) (p : Point) (r : Option Stand) → a.point ≡ p → IfSome r (λ b. PassesOn code w (record { point = p; fuel = a.fuel }) b) → IfSome r (λ b. PassesOn code w a b)
point_as code w a p r e h = subst (λ (q : Point). IfSome r (λ b. PassesOn code w (record { point = q; fuel = a.fuel }) b)) (sym e) h

-- ---- literals

-- a unit, and then something
unit_then : {A : Type 0} (m : Run A) (s : State) (n : ℕ) → s.fuel ≡ suc n → bind tick (λ u. m) s ≡ after_reads [] (m (record s { fuel = n }))
unfolding bind
unit_then m s n e = ap (λ (k : ℕ). go_on (tick_at k s).said (tick_at k s).after (tick_at k s).reads (λ u. m)) e

pub literal_is : (code : Code) (d : Doing) (i n : ℕ) (u : v.Value) (s : State) → IsMeaning code d → expression_of (node_at code i) ≡ expressions.Literal u → s.fuel ≡ suc n → d.value i s ≡ give u (record s { fuel = n })
literal_is code d i n u s m e f =
    m.value_is i s
    ∙ (ap (λ (x : Expression). bind tick (λ t. value_done code d x) s) e
    ∙ unit_then (give u) s n f)

pub returned_is : (code : Code) (d : Doing) (i j n : ℕ) (u : v.Value) (s : State) → IsMeaning code d → statement_of (node_at code i) ≡ statements.Return j → s.fuel ≡ suc (suc n)
    → d.value j (record s { fuel = suc n }) ≡ give u (record s { fuel = n }) → d.exec i s ≡ give (ways.Gave u) (record s { fuel = n })
unfolding bind
returned_is code d i j n u s m e f h =
    m.exec_is i s
    ∙ (ap (λ (x : Statement). statement_done code d x s) e
    ∙ (unit_then (flow_of code d (statements.Return j)) s (suc n) f
    ∙ ap (λ (o : Outcome v.Value). after_reads [] (go_on o.said o.after o.reads (λ w. give (ways.Gave w)))) h))

-- ---- frames one below another

-- a value known from here is known from the frames at first
abbrev pub LeadsBack : Code → List Frame → List Frame → Stand → Stand → Type 0
LeadsBack code fs gs a b = (u : v.Value) → TellsAt code gs b u → TellsAt code fs a u

pub back_on : (code : Code) (fs gs hs : List Frame) (w : Waiting) (a b c : Stand) (on : IsOnTop w gs) → LeadsBack code fs gs a b → hs ≡ on.rest → PassesOn code w b c → LeadsBack code fs hs a c
back_on code fs gs hs w a b c on h next p = λ u g.
    h u (λ d s i e.
    let q = p d on.values on.locals hs s i e in
    let same : gs ≡ frame_of w on.values on.locals ∷ hs = on.is ∙ ap (λ (ks : List Frame). frame_of w on.values on.locals ∷ ks) (sym next) in
    told_as u [] (out_point code d gs b.point s) (out_point code d hs c.point q.0) (ap (λ (ks : List Frame). out_point code d ks b.point s) same ∙ q.2) (g d q.0 i q.1))

pub told_last : (code : Code) (fs gs : List Frame) (a b : Stand) (u : v.Value) → LeadsBack code fs gs a b → gs ≡ [] → b.point ≡ points.Comes u → TellsAt code fs a u
told_last code fs gs a b u h e p = h u (λ d s i f. told_as u [] (out_point code d gs b.point s) (out_point code d [] (points.Comes u) s) (ap (λ (ks : List Frame). out_point code d ks b.point s) e ∙ ap (λ (q : Point). out_point code d [] q s) p) (record { said = refl; reads_are = refl }))

-- ---- after a flow

-- a value that a body gives
pub gave_told : (code : Code) (fs gs : List Frame) (a w : World) (flow now : Flow) (given : v.Value) (r : Option v.Value)
    → ((d : Doing) → IsMeaning code d → flows code d fs a flow ≡ flows code d gs w now) → IsSpent a w → now ≡ ways.Gave given
    → IfSome r (λ u. TellsAt code gs (record { point = points.Gives given; fuel = w.fuel }) u) → IfSome r (λ u. TellsOf code fs a flow u)
gave_told code fs gs a w flow now given None h s e g = tt
gave_told code fs gs a w flow now given (Some u) h s e g = λ d i.
    told_there u a w (flows code d fs a flow) s (told_as u w.reads (flows code d fs a flow) (flows code d gs w (ways.Gave given)) (h d i ∙ ap (λ (f : Flow). flows code d gs w f) e) (told_noted u w.reads _ (g d (state_of w) i refl)))
