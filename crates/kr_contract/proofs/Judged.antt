-- How what is judged of runs follows one another.
use Rattle.std.proofs.Common.{◌≡◌, true, [], ◌∷◌, ◌++◌, length, take, Result, Ok, Err, refl}
use Rattle.kr_value.specs.declared.value.Value.{Value}
use Rattle.kr_mean.specs.declared.kind.Kind.{Kind}
use Rattle.kr_mean.specs.declared.kind.Verdict.{Verdict}
use Rattle.kr_mean.specs.declared.kind.Stop.{Stop}
use Rattle.kr_mean.specs.declared.kind.Stop.TheVariants.{Trapped, OutOfFuel, Stuck}
use Rattle.kr_mean.specs.Steps.{State, Outcome, Run, bind, go_on, plain_local}
use Rattle.kr_mean.specs.Verdicts.{judged_as, naming, then_judged}
use Rattle.kr_contract.specs.Tests.{ended_as}

-- the continuation may be replaced by an equal one
pub judged_same : {A : Type 0} (trap : Kind → Verdict) (r : Result A Stop) (s : State) (f g : A → State → Verdict) → ((a : A) (t : State) → f a t ≡ g a t) → judged_as trap r s f ≡ judged_as trap r s g
judged_same trap (Ok a) s f g h = h a s
judged_same trap (Err (Trapped kind)) s f g h = refl
judged_same trap (Err OutOfFuel) s f g h = refl
judged_same trap (Err Stuck) s f g h = refl

pub then_same : {A : Type 0} (trap : Kind → Verdict) (o : Outcome A) (f g : A → State → Verdict) → ((a : A) (t : State) → f a t ≡ g a t) → then_judged trap o f ≡ then_judged trap o g
then_same trap o f g h = judged_same trap o.said o.after f g h

-- one run and then another
pub judged_then : {A B : Type 0} (trap : Kind → Verdict) (m : Run A) (f : A → Run B) (s : State) (next : B → State → Verdict) → then_judged trap (bind m f s) next ≡ then_judged trap (m s) (λ a t. then_judged trap (f a t) next)
unfolding bind
judged_then {A} {B} trap m f s next = go (m s).said
  where
    go : (r : Result A Stop) → then_judged trap (go_on r (m s).after (m s).reads f) next ≡ judged_as trap r (m s).after (λ a t. then_judged trap (f a t) next)
    go (Ok a) = refl
    go (Err (Trapped kind)) = refl
    go (Err OutOfFuel) = refl
    go (Err Stuck) = refl

-- the end of a run
pub judged_end : {A : Type 0} (trap : Kind → Verdict) (e : Stop) (s : State) (next : A → State → Verdict) → judged_as trap (Err e) s next ≡ ended_as trap e
judged_end trap (Trapped kind) s next = refl
judged_end trap OutOfFuel s next = refl
judged_end trap Stuck s next = refl

-- a run with an object as one more local
pub judged_naming : {A : Type 0} (trap : Kind → Verdict) (o : Value) (m : Run A) (s : State) (next : A → State → Verdict)
    → then_judged trap (naming true o m s) next ≡ then_judged trap (m (record s { locals = s.locals ++ plain_local o ∷ [] })) (λ a t. next a (record t { locals = take (length s.locals) t.locals }))
unfolding bind
judged_naming {A} trap o m s next = go (m inner).said (m inner).after
  where
    inner : State
    inner = record s { locals = s.locals ++ plain_local o ∷ [] }

    go : (r : Result A Stop) (t : State) → judged_as trap r (record t { locals = take (length s.locals) t.locals }) next ≡ judged_as trap r t (λ a u. next a (record u { locals = take (length s.locals) u.locals }))
    go (Ok a) t = refl
    go (Err (Trapped kind)) t = refl
    go (Err OutOfFuel) t = refl
    go (Err Stuck) t = refl
