-- Where statements lead, from what their parts give.
use Rattle.std.proofs.Common.{◌≡◌, ℕ, suc, ◌-◌, ◌<◌, List, [], ◌∷◌, length, Some, None, Ok, refl, sym, ap, subst, arith, ◌∙◌}
use Rattle.std.specs.Prelude.{Option, IfSome, map, take}
use Rattle.std.proofs.lemmas.List.{take_all}
use Rattle.kr_value.specs.declared.value.Value.{Value}
use Rattle.kr_mean.specs.declared.flow.Flow.{Flow}
use Rattle.kr_mean.specs.declared.flow.Flow.TheVariants as flows
use Rattle.kr_mean.specs.Steps as steps
use Rattle.kr_mean.specs.Steps.{State, Outcome, Run, bind, give, scoped, tick}
use Rattle.kr_mean.specs.Meaning.{then_on}
use Rattle.kr_code.specs.declared.code.Code.{Code}
use Rattle.kr_code.specs.declared.statement.Statement.{Statement}
use Rattle.kr_code.specs.declared.statement.Statement.TheVariants as statements
use Rattle.kr_code.specs.Tables.{node_at, statement_of}
use Rattle.kr_code.specs.Doing.{Doing, all_at, statement_done, flow_of}
use Rattle.kr_run_state.specs.declared.world.World.{World}
use Rattle.kr_run_state.specs.Noting.{noting}
use Rattle.kr_run_state.specs.Shown.{local_of}
use Rattle.kr_run_state.specs.Worlds.{Others}
use Rattle.kr_run_known.specs.declared.known.Known.{Known}
use Rattle.kr_run_known.specs.Knowing.{Knows, fuelled}
use Rattle.kr_run_known.proofs.Going.{noted_then, ticks}
use Rattle.kr_run_lookahead.specs.declared.flows.Led.{Led}
use Rattle.kr_run_lookahead.specs.Flows.{KnowsFlow, otherwise}

-- a value, and then where it leads
pub value_then : (code : Code) (w : World) (n : ℕ) (k : Known) (v : Value) (r : Option Led) (m : Doing → Run Value) (f : Doing → Value → Run Flow) → k.value ≡ v → Knows code w n k m → IfSome r (λ l. KnowsFlow code w k.fuel l (λ d. f d v)) → IfSome r (λ l. KnowsFlow code w n l (λ d. bind (m d) (f d)))
value_then code w n k v None m f e h g = tt
value_then code w n k v (Some l) m f e h g = λ x a d i. noted_then (m d) (f d) (fuelled w n x) (fuelled w k.fuel x) w.reads w.reads k.value (h x a d i) ∙ (ap (λ (u : Value). noting w.reads (f d u (fuelled w k.fuel x))) e ∙ g x a d i)

-- a statement by its kind
pub by_kind : (code : Code) (w : World) (n : ℕ) (r : Option Led) (t t' : Statement) → t ≡ t' → IfSome r (λ l. KnowsFlow code w n l (λ d. flow_of code d t')) → IfSome r (λ l. KnowsFlow code w n l (λ d. flow_of code d t))
by_kind code w n r t t' is h = subst (λ (s : Statement). IfSome r (λ l. KnowsFlow code w n l (λ d. flow_of code d s))) (sym is) h

-- the part that runs where a condition doesn't hold
pub otherwise_as : (code : Code) (w : World) (n : ℕ) (r : Option Led) (o o' : Option ℕ) → o ≡ o' → IfSome r (λ l. KnowsFlow code w n l (λ d. otherwise d o')) → IfSome r (λ l. KnowsFlow code w n l (λ d. otherwise d o))
otherwise_as code w n r o o' is h = subst (λ (p : Option ℕ). IfSome r (λ l. KnowsFlow code w n l (λ d. otherwise d p))) (sym is) h

-- a block's locals are those that there were
pub block_led : (code : Code) (w : World) (n : ℕ) (r : Option Led) (m : Doing → Run Flow) → IfSome r (λ l. KnowsFlow code w n l m) → IfSome r (λ l. KnowsFlow code w n l (λ d. scoped (m d)))
block_led code w n None m h = tt
block_led code w n (Some l) m h = λ x a d i.
    let locals = map local_of w.locals.items in
    ap (λ (q : Outcome Flow). record { said = q.said; after = record q.after { locals = take (length locals) q.after.locals }; reads = q.reads }) (h x a d i)
    ∙ ap (λ (ls : List steps.Local). record { said = Ok l.flow; after = record (fuelled w l.fuel x) { locals = ls }; reads = w.reads }) (take_all (length locals) locals (omega arith))

-- ---- one statement after another

-- the rest leads where all of them lead
abbrev pub LeadsAlike : Code → World → ℕ → List ℕ → ℕ → List ℕ → Type 0
LeadsAlike code w n ns p is = (j : Led) → KnowsFlow code w p j (λ d. all_at d is) → KnowsFlow code w n j (λ d. all_at d ns)

-- a statement leads on to the others
pub on_to : (code : Code) (w : World) (n node : ℕ) (l : Led) (ns is : List ℕ) → ns ≡ node ∷ is → l.flow ≡ flows.Next → KnowsFlow code w n l (λ d. d.exec node) → LeadsAlike code w n ns l.fuel is
on_to code w n node l ns is at e h j g = λ x a d i.
    ap (λ (ms : List ℕ). noting w.reads (all_at d ms (fuelled w n x))) at
    ∙ noted_then (d.exec node) (λ flow. then_on flow (all_at d is)) (fuelled w n x) (fuelled w l.fuel x) w.reads w.reads l.flow (h x a d i)
    ∙ ap (λ (f : Flow). noting w.reads (then_on f (all_at d is) (fuelled w l.fuel x))) e
    ∙ g x a d i

away : (d : Doing) (is : List ℕ) (f : Flow) → (f ≡ flows.Next → ⊥) → then_on f (all_at d is) ≡ give f
away d is flows.Next not = absurd (not refl)
away d is flows.Broke not = refl
away d is flows.Continued not = refl
away d is flows.Left not = refl
away d is (flows.Gave v) not = refl

-- a statement leads away from the others
pub away_from : (code : Code) (w : World) (n node : ℕ) (l : Led) (r : Option Led) (ns is : List ℕ) → ns ≡ node ∷ is → (l.flow ≡ flows.Next → ⊥) → KnowsFlow code w n l (λ d. d.exec node) → IfSome r (λ j. KnowsFlow code w l.fuel j (λ d. give l.flow)) → IfSome r (λ j. KnowsFlow code w n j (λ d. all_at d ns))
away_from code w n node l None ns is e not h g = tt
away_from code w n node l (Some j) ns is e not h g = λ x a d i.
    ap (λ (ms : List ℕ). noting w.reads (all_at d ms (fuelled w n x))) e
    ∙ noted_then (d.exec node) (λ flow. then_on flow (all_at d is)) (fuelled w n x) (fuelled w l.fuel x) w.reads w.reads l.flow (h x a d i)
    ∙ ap (λ (m : Run Flow). noting w.reads (m (fuelled w l.fuel x))) (away d is l.flow not)
    ∙ g x a d i

-- none is left
pub none_left : (code : Code) (w : World) (n : ℕ) (r : Option Led) (ns : List ℕ) → ns ≡ [] → IfSome r (λ l. KnowsFlow code w n l (λ d. give flows.Next)) → IfSome r (λ l. KnowsFlow code w n l (λ d. all_at d ns))
none_left code w n None ns e h = tt
none_left code w n (Some l) ns e h = λ x a d i. ap (λ (ms : List ℕ). noting w.reads (all_at d ms (fuelled w n x))) e ∙ h x a d i

pub on_alike : (code : Code) (w : World) (n p : ℕ) (ns is : List ℕ) (r : Option Led) → LeadsAlike code w n ns p is → IfSome r (λ l. KnowsFlow code w p l (λ d. all_at d is)) → IfSome r (λ l. KnowsFlow code w n l (λ d. all_at d ns))
on_alike code w n p ns is None f h = tt
on_alike code w n p ns is (Some l) f h = f l h

-- ---- a statement's unit

with_unit : (code : Code) (w : World) (n p : ℕ) (x : Others) (d : Doing) (flow : Flow) (after : State) (t : Statement) → n ≡ suc p → noting w.reads (flow_of code d t (fuelled w p x)) ≡ record { said = Ok flow; after = after; reads = w.reads } → noting w.reads (statement_done code d t (fuelled w n x)) ≡ record { said = Ok flow; after = after; reads = w.reads }
with_unit code w n p x d flow after (statements.Declare ns) is h = absurd (cc (ap (λ (q : Outcome Flow). q.said) h))
with_unit code w n p x d flow after t is h = noted_then tick (λ u. flow_of code d t) (fuelled w n x) (fuelled w p x) w.reads w.reads tt (ticks w n p x is) ∙ h

pub node_led : (code : Code) (w : World) (n node : ℕ) (t : Statement) (r : Option Led) → 0 < n → t ≡ statement_of (node_at code node) → IfSome r (λ l. KnowsFlow code w (n - 1) l (λ d. flow_of code d t)) → IfSome r (λ l. KnowsFlow code w n l (λ d. d.exec node))
node_led code w n node t None lt is h = tt
node_led code w n node t (Some l) lt is h = λ x a d i.
    ap (λ (q : Outcome Flow). noting w.reads q) (i.exec_is node (fuelled w n x))
    ∙ ap (λ (s : Statement). noting w.reads (statement_done code d s (fuelled w n x))) (sym is)
    ∙ with_unit code w n (n - 1) x d l.flow (fuelled w l.fuel x) t (omega (arith, lt)) (h x a d i)
