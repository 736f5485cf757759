-- How what one run gives goes on in another.
use Rattle.std.proofs.Common.{◌≡◌, ℕ, suc, ◌-◌, ◌<◌, List, [], ◌∷◌, ◌++◌, Some, None, Ok, Err, refl, sym, ap, subst, arith, ◌∙◌}
use Rattle.std.specs.Prelude.{Option, Result, IfSome, take, drop}
use Rattle.std.proofs.lemmas.List.{append-nil}
use Rattle.kr_value.specs.declared.value.Value.{Value}
use Rattle.kr_mean.specs.declared.kind.Stop.{Stop}
use Rattle.kr_mean.specs.Places.{SlotPlace}
use Rattle.kr_mean.specs.Steps.{State, Outcome, Run, after_reads, go_on, bind, give, get_this, tick, tick_at}
use Rattle.kr_code.specs.declared.code.Code.{Code}
use Rattle.kr_code.specs.declared.expression.Nodes.{Nodes}
use Rattle.kr_code.specs.declared.expression.Expression.{Expression}
use Rattle.kr_code.specs.Tables.{expression_of, listed, node_at}
use Rattle.kr_code.specs.Doing.{Doing, value_done, values_at}
use Rattle.kr_run_state.specs.declared.world.World.{World}
use Rattle.kr_run_state.specs.Noting.{noting, noted_once, with_read}
use Rattle.kr_run_state.specs.Worlds.{Others}
use Rattle.kr_run_known.specs.declared.known.Known.{Known}
use Rattle.kr_run_known.specs.Knowing.{Knows, fuelled}

noted_behind : (seen a b : List SlotPlace) → noted_once seen (a ++ b) ≡ noted_once (noted_once seen a) b
noted_behind seen [] b = refl
noted_behind seen (p ∷ a) b = noted_behind (with_read seen p) a b

-- the notes after a run that gave a value
pub noted_then : {A B : Type 0} (m : Run A) (k : A → Run B) (s t : State) (seen new : List SlotPlace) (a : A) → noting seen (m s) ≡ record { said = Ok a; after = t; reads = new } → noting seen (bind m k s) ≡ noting new (k a t)
unfolding bind
noted_then {A} {B} m k s t seen new a h =
    ap (λ (r : Result A Stop). noting seen (go_on r (m s).after (m s).reads k)) (ap (λ (q : Outcome A). q.said) h)
    ∙ ap (λ (u : State). noting seen (after_reads (m s).reads (k a u))) (ap (λ (q : Outcome A). q.after) h)
    ∙ ap mk (noted_behind seen (m s).reads (k a t).reads ∙ ap (λ (ps : List SlotPlace). noted_once ps (k a t).reads) (ap (λ (q : Outcome A). q.reads) h))
  where
    mk : List SlotPlace → Outcome B
    mk ps = record { said = (k a t).said; after = (k a t).after; reads = ps }

-- known reads of a run, and of its continuation
pub knows_then : (code : Code) (w : World) (n : ℕ) (k : Known) (r : Option Known) (m : Doing → Run Value) (f : Doing → Value → Run Value) → Knows code w n k m → IfSome r (λ j. Knows code w k.fuel j (λ d. f d k.value)) → IfSome r (λ j. Knows code w n j (λ d. bind (m d) (f d)))
knows_then code w n k None m f h g = tt
knows_then code w n k (Some j) m f h g = λ x a d i. noted_then (m d) (f d) (fuelled w n x) (fuelled w k.fuel x) w.reads w.reads k.value (h x a d i) ∙ g x a d i

-- likewise, where the value is known by another name
pub knows_as : (code : Code) (w : World) (n : ℕ) (k : Known) (v : Value) (r : Option Known) (m : Doing → Run Value) (f : Doing → Value → Run Value) → k.value ≡ v → Knows code w n k m → IfSome r (λ j. Knows code w k.fuel j (λ d. f d v)) → IfSome r (λ j. Knows code w n j (λ d. bind (m d) (f d)))
knows_as code w n k v None m f e h g = tt
knows_as code w n k v (Some j) m f e h g = λ x a d i. noted_then (m d) (f d) (fuelled w n x) (fuelled w k.fuel x) w.reads w.reads k.value (h x a d i) ∙ (ap (λ (u : Value). noting w.reads (f d u (fuelled w k.fuel x))) e ∙ g x a d i)

-- nothing is called with
pub no_values : (code : Code) (w : World) (n : ℕ) (r : Option Known) (m : List Value → Run Value) (is : List ℕ) → is ≡ [] → IfSome r (λ k. Knows code w n k (λ d. m [])) → IfSome r (λ k. Knows code w n k (λ d. bind (values_at d is) m))
unfolding bind
no_values code w n None m is e h = tt
no_values code w n (Some k) m is e h = λ x a d i. ap (λ (js : List ℕ). noting w.reads (bind (values_at d js) m (fuelled w n x))) e ∙ h x a d i

pub none_listed : (code : Code) (ns : Nodes) → ns.count ≡ 0 → listed code ns ≡ []
none_listed code ns e = ap (λ (n : ℕ). take n (drop ns.first code.links.items)) e

-- equal continuations
behind : {A B : Type 0} (r : Result A Stop) (t : State) (ps : List SlotPlace) (f g : A → Run B) → ((a : A) (s : State) → f a s ≡ g a s) → go_on r t ps f ≡ go_on r t ps g
behind {A} {B} (Ok a) t ps f g same = ap (λ (q : Outcome B). after_reads ps q) (same a t)
behind (Err e) t ps f g same = refl

-- the only argument
pub one_value : {B : Type 0} (d : Doing) (i : ℕ) (f : List Value → Run B) (s : State) → bind (values_at d (i ∷ [])) f s ≡ bind (d.value i) (λ v. f (v ∷ [])) s
unfolding bind
one_value {B} d i f s = go (d.value i s).said
  where
    go : (r : Result Value Stop) → (let o = go_on r (d.value i s).after (d.value i s).reads (λ v. give (v ∷ [])) in go_on o.said o.after o.reads f) ≡ go_on r (d.value i s).after (d.value i s).reads (λ v. f (v ∷ []))
    go (Ok v) = ap (λ (ps : List SlotPlace). after_reads ps (f (v ∷ []) (d.value i s).after)) (append-nil (d.value i s).reads)
    go (Err e) = refl

-- something is called with the only argument
pub only_value : (code : Code) (w : World) (n : ℕ) (r : Option Known) (m : Doing → Run Value) (f : Value → List Value → Run Value) (is : List ℕ) (i : ℕ) → is ≡ i ∷ [] → IfSome r (λ k. Knows code w n k (λ d. bind (m d) (λ o. bind (d.value i) (λ v. f o (v ∷ []))))) → IfSome r (λ k. Knows code w n k (λ d. bind (m d) (λ o. bind (values_at d is) (f o))))
unfolding bind
only_value code w n None m f is i e h = tt
only_value code w n (Some k) m f is i e h = λ x a d j.
    let s = fuelled w n x in
    ap (λ (js : List ℕ). noting w.reads (bind (m d) (λ o. bind (values_at d js) (f o)) s)) e
    ∙ ap (λ (q : Outcome Value). noting w.reads q) (behind (m d s).said (m d s).after (m d s).reads (λ o. bind (values_at d (i ∷ [])) (f o)) (λ o. bind (d.value i) (λ v. f o (v ∷ []))) (λ o. one_value d i (f o)))
    ∙ h x a d j

-- an expression by its kind
pub as_kind : (code : Code) (w : World) (n : ℕ) (r : Option Known) (e e' : Expression) → e ≡ e' → IfSome r (λ k. Knows code w n k (λ d. value_done code d e')) → IfSome r (λ k. Knows code w n k (λ d. value_done code d e))
as_kind code w n r e e' is h = subst (λ (t : Expression). IfSome r (λ k. Knows code w n k (λ d. value_done code d t))) (sym is) h

-- a node's unit
pub ticks : (w : World) (n p : ℕ) (x : Others) → n ≡ suc p → noting w.reads (tick (fuelled w n x)) ≡ record { said = Ok tt; after = fuelled w p x; reads = w.reads }
ticks w n p x e = ap (λ (m : ℕ). noting w.reads (tick_at m (fuelled w m x))) e

pub node_known : (code : Code) (w : World) (n node : ℕ) (e : Expression) (r : Option Known) → 0 < n → e ≡ expression_of (node_at code node) → IfSome r (λ k. Knows code w (n - 1) k (λ d. value_done code d e)) → IfSome r (λ k. Knows code w n k (λ d. d.value node))
node_known code w n node e None lt is h = tt
node_known code w n node e (Some k) lt is h = λ x a d i.
    ap (λ (q : Outcome Value). noting w.reads q) (i.value_is node (fuelled w n x))
    ∙ ap (λ (t : Expression). noting w.reads (bind tick (λ u. value_done code d t) (fuelled w n x))) (sym is)
    ∙ noted_then tick (λ u. value_done code d e) (fuelled w n x) (fuelled w (n - 1) x) w.reads w.reads tt (ticks w n (n - 1) x (omega (arith, lt)))
    ∙ h x a d i

-- `this`, and then something
pub this_then : (code : Code) (w : World) (n : ℕ) (r : Option Known) (f : Value → Run Value) → IfSome r (λ k. Knows code w n k (λ d. f w.this)) → IfSome r (λ k. Knows code w n k (λ d. bind get_this f))
unfolding bind
this_then code w n None f h = tt
this_then code w n (Some k) f h = λ x a d i. h x a d i

-- an answer that is handed on
pub same_known : (code : Code) (w : World) (n : ℕ) (r q : Option Known) (m : Doing → Run Value) → q ≡ r → IfSome r (λ k. Knows code w n k m) → IfSome q (λ k. Knows code w n k m)
same_known code w n r q m e h = subst (λ (p : Option Known). IfSome p (λ k. Knows code w n k m)) (sym e) h

pub handed : (code : Code) (w : World) (n : ℕ) (r q : Option Known) (e e' : Expression) → e ≡ e' → q ≡ r → IfSome r (λ k. Knows code w n k (λ d. value_done code d e')) → IfSome q (λ k. Knows code w n k (λ d. value_done code d e))
handed code w n r q e e' is same h = same_known code w n r q (λ (d : Doing). value_done code d e) same (as_kind code w n r e e' is h)
