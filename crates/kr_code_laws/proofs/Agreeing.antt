-- Runs that agree in every state, and what keeps that.
use Rattle.std.proofs.Common.{◌≡◌, ℕ, zero, suc, Bool, true, false, List, Option, Some, None, Result, Ok, Err, refl, ap, ◌∙◌}
use Rattle.std.specs.Prelude.{length, take, map, nat_eq}
use Rattle.kr_value.specs.declared.value.Value.{Value}
use Rattle.kr_value.specs.declared.value.Value.TheVariants.{Int, Bool as Truth, Null, Ref as Reference}
use Rattle.kr_mean.specs.declared.kind.Kind.{Kind}
use Rattle.kr_mean.specs.declared.kind.Stop.{Stop}
use Rattle.kr_mean.specs.declared.kind.Stop.TheVariants.{Trapped, OutOfFuel, Stuck}
use Rattle.kr_mean.specs.Thrown.{handled, caught_by, attempted}
use Rattle.kr_mean.specs.Places.{SlotPlace}
use Rattle.kr_mean.specs.Steps.{State, Outcome, Run, give, go_on, bind, after_reads, back_to, plain_local, ◌>>=◌, tick, entered, within, scoped}
use Rattle.kr_mean.specs.declared.flow.Flow.{Flow}
use Rattle.kr_mean.specs.declared.flow.Flow.TheVariants.{Next, Broke, Continued, Left, Gave}
use Rattle.kr_mean.specs.Meaning.{choose, then_on, then_round, then_update, rounds, loop}

abbrev pub Agree : {A : Type 0} → Run A → Run A → Type 0
Agree m m' = (s : State) → m s ≡ m' s

pub then_same : {A B : Type 0} (m m' : Run A) (f f' : A → Run B) → Agree m m' → ((a : A) → Agree (f a) (f' a)) → Agree (m >>= f) (m' >>= f')
unfolding bind
then_same {A} {B} m m' f f' p q s = ap (λ (o : Outcome A). go_on o.said o.after o.reads f) (p s) ∙ go (m' s).said (m' s).after (m' s).reads
  where
    go : (r : Result A Stop) (t : State) (ps : List SlotPlace) → go_on r t ps f ≡ go_on r t ps f'
    go (Ok a) t ps = ap (λ (o : Outcome B). after_reads ps o) (q a t)
    go (Err e) t ps = refl

-- a step that gives a value at once, and the steps after it
pub given_first : {A B : Type 0} (a : A) (f : A → Run B) → Agree (give a >>= f) (f a)
unfolding bind
given_first a f s = refl

pub within_same : {A : Type 0} (o : Value) (n : ℕ) (vs : List Value) (m m' : Run A) → Agree m m' → Agree (within o n vs m) (within o n vs m')
within_same {A} o n vs m m' p s = go (nat_eq (length vs) n)
  where
    go : (b : Bool) → entered b o vs m s ≡ entered b o vs m' s
    go true = ap (λ (x : Outcome A). back_to s x) (p (record s { this_value = o; locals = map plain_local vs }))
    go false = refl

pub scoped_same : {A : Type 0} (m m' : Run A) → Agree m m' → Agree (scoped m) (scoped m')
scoped_same {A} m m' p s = ap (λ (o : Outcome A). record { said = o.said; after = record o.after { locals = take (length s.locals) o.after.locals }; reads = o.reads }) (p s)

-- two runs that agree, if there are any
abbrev pub BothAgree : {A : Type 0} → Option (Run A) → Option (Run A) → Type 0
BothAgree None None = Unit {0}
BothAgree (Some m) (Some n) = Agree m n
BothAgree _ _ = ⊥

pub attempted_same : {A : Type 0} (m m' : Run A) (h h' : Kind → Option (Run A)) → Agree m m' → ((k : Kind) → BothAgree (h k) (h' k)) → Agree (attempted m h) (attempted m' h')
unfolding attempted
attempted_same {A} m m' h h' p q s = ap (λ (o : Outcome A). caught_by (handled o.said h) o) (p s) ∙ go (m' s).said (m' s)
  where
    each : (x y : Option (Run A)) → BothAgree x y → (o : Outcome A) → caught_by x o ≡ caught_by y o
    each None None u o = refl
    each (Some x) (Some y) u o = ap (after_reads o.reads) (u o.after)
    each None (Some y) u o = absurd u
    each (Some x) None u o = absurd u

    go : (r : Result A Stop) (o : Outcome A) → caught_by (handled r h) o ≡ caught_by (handled r h') o
    go (Ok a) o = refl
    go (Err (Trapped k)) o = each (h k) (h' k) (q k) o
    go (Err OutOfFuel) o = refl
    go (Err Stuck) o = refl

pub choose_same : {A : Type 0} (v : Value) (m m' n n' : Run A) → Agree m m' → Agree n n' → Agree (choose v m n) (choose v m' n')
choose_same (Truth true) m m' n n' p q = p
choose_same (Truth false) m m' n n' p q = q
choose_same (Int i) m m' n n' p q = λ s. refl
choose_same Null m m' n n' p q = λ s. refl
choose_same (Reference o) m m' n n' p q = λ s. refl

pub on_same : (f : Flow) (m m' : Run Flow) → Agree m m' → Agree (then_on f m) (then_on f m')
on_same Next m m' p = p
on_same Broke m m' p = λ s. refl
on_same Continued m m' p = λ s. refl
on_same Left m m' p = λ s. refl
on_same (Gave v) m m' p = λ s. refl

pub round_same : (f : Flow) (m m' : Run Flow) → Agree m m' → Agree (then_round f m) (then_round f m')
round_same Next m m' p = p
round_same Broke m m' p = λ s. refl
round_same Continued m m' p = p
round_same Left m m' p = λ s. refl
round_same (Gave v) m m' p = λ s. refl

pub update_same : (f : Flow) (m m' : Run Flow) → Agree m m' → Agree (then_update f m) (then_update f m')
update_same Next m m' p = p
update_same Broke m m' p = λ s. refl
update_same Continued m m' p = p
update_same Left m m' p = λ s. refl
update_same (Gave v) m m' p = λ s. refl

rounds_same : (n : ℕ) (test test' : Run Value) (body body' : Run Flow) → Agree test test' → Agree body body' → Agree (rounds n test body) (rounds n test' body')
rounds_same zero test test' body body' p q = λ s. refl
rounds_same (suc n) test test' body body' p q =
    then_same tick tick _ _ (λ s. refl) (λ u. then_same test test' _ _ p (λ v. choose_same v _ _ _ _ (then_same body body' _ _ q (λ f. round_same f _ _ (rounds_same n test test' body body' p q))) (λ s. refl)))

pub loop_same : (test test' : Run Value) (body body' : Run Flow) → Agree test test' → Agree body body' → Agree (loop test body) (loop test' body')
unfolding loop
loop_same test test' body body' p q s = rounds_same s.fuel test test' body body' p q s
