-- Between crates: the parts of a test as code runs them, and what is answered of one: what follows goes on from the answer, or the
-- verdict is said.
use Rattle.std.specs.Prelude.{◌≡◌, ℕ, ◌+◌, Bool, true, false, List, [], ◌∷◌, map, if◌then◌else◌, Option, Some, None, Result, Ok, Err}
use Rattle.kr_value.specs.declared.value.Value.{Value}
use Rattle.kr_value.specs.declared.value.Value.TheVariants.{Null}
use Rattle.kr_mean.specs.declared.kind.Kind.{Kind}
use Rattle.kr_mean.specs.declared.kind.Verdict.{Verdict}
use Rattle.kr_mean.specs.declared.kind.Verdict.TheVariants.{Pass, Ensures, Signals, RepOk, Trap, CheckTrap, Spent}
use Rattle.kr_mean.specs.declared.kind.Stop.{Stop}
use Rattle.kr_mean.specs.declared.kind.Stop.TheVariants as ends
use Rattle.kr_mean.specs.Steps.{Old, State, Outcome, Run, give, ◌>>=◌}
use Rattle.kr_mean.specs.Verdicts.{then_judged, where_holds, naming}
use Rattle.kr_code.specs.declared.code.Code.{Code}
use Rattle.kr_code.specs.Doing.{Doing, IsMeaning, run_method}
use Rattle.kr_code.specs.Tables.{method_at, class_in_kind, is_caught_by}
use Rattle.kr_code.specs.Steps.{taken}
use Rattle.kr_judge_prepared.specs.declared.contract.OldCode.{OldCode}
use Rattle.kr_judge_prepared.specs.declared.contract.SignalCode.{SignalCode}
use Rattle.kr_judge_prepared.specs.declared.contract.Contract.{Contract}
use Rattle.kr_run_state.specs.declared.world.World.{World}
use Rattle.kr_run_state.specs.Worlds.{state_of}

-- ---- the parts, by their nodes

-- the values of `\old`s
abbrev pub olds_at : Doing → List OldCode → Run (List Old)
olds_at d [] = give []
olds_at d (o ∷ os) = do
  v ← naming o.is_named Null (d.value o.operand)
  vs ← olds_at d os
  give (record { place = o.place; value = v } ∷ vs)

-- the method's body, on the state's `this` and with its locals
abbrev pub body_at : Code → Doing → ℕ → Run Value
body_at code d method s = run_method code d s.this_value (map (λ l. l.value) s.locals) (method_at code method) s

-- the number of the first postcondition that is false
abbrev pub ensured_at : Doing → ℕ → List ℕ → State → Verdict
ensured_at d n [] s = Pass
ensured_at d n (i ∷ is) s = then_judged CheckTrap (d.value i s) (λ v t. where_holds v (Ensures n) (ensured_at d (n + 1) is t))

-- a state that the postconditions see
abbrev pub shown_to : List Old → Value → State → State
shown_to olds result s = record s { result = Some result; olds = olds }

-- the predicate, and then the postconditions
abbrev pub checked_at : Doing → ℕ → List ℕ → List Old → Value → State → Verdict
checked_at d rep_ok ns olds result s = then_judged CheckTrap (d.value rep_ok s) (λ v t. where_holds v RepOk (ensured_at d 1 ns (shown_to olds result t)))

-- ---- a body that throws

-- the clauses whose class fits, with their numbers from n on
abbrev pub fitting_at : Code → Kind → ℕ → List SignalCode → List (ℕ × SignalCode)
fitting_at code k n [] = []
fitting_at code k n (c ∷ cs) = if is_caught_by code c.caught (class_in_kind code k) then (n, c) ∷ fitting_at code k (n + 1) cs else fitting_at code k (n + 1) cs

abbrev pub signalled_at : Doing → Value → List (ℕ × SignalCode) → State → Verdict
signalled_at d o [] s = Pass
signalled_at d o (c ∷ cs) s = then_judged CheckTrap (naming c.1.is_named o (d.value c.1.condition) s) (λ v t. where_holds v (Signals c.0) (signalled_at d o cs t))

-- the predicate, and then the clauses that fit
abbrev pub signals_at : Doing → ℕ → List Old → Value → List (ℕ × SignalCode) → State → Verdict
signals_at d rep_ok olds o cs s = then_judged CheckTrap (d.value rep_ok s) (λ v t. where_holds v RepOk (signalled_at d o cs (record t { olds = olds })))

-- the object comes before them; without a clause that fits the method traps
abbrev pub thrown_at : Code → Doing → ℕ → List Old → Kind → List (ℕ × SignalCode) → State → Verdict
thrown_at code d rep_ok olds k [] s = Trap k
thrown_at code d rep_ok olds k (c ∷ cs) s = then_judged CheckTrap (taken code k s) (λ o t. signals_at d rep_ok olds o (c ∷ cs) t)

abbrev pub no_clause : List (ℕ × SignalCode) → Bool
no_clause [] = true
no_clause (c ∷ cs) = false

-- a clause that fits is judged; another one isn't
abbrev pub signal_judged : Doing → Value → ℕ → SignalCode → Bool → State → (State → Verdict) → Verdict
signal_judged d o n c true s next = then_judged CheckTrap (naming c.is_named o (d.value c.condition) s) (λ v t. where_holds v (Signals n) (next t))
signal_judged d o n c false s next = next s

abbrev pub after_body_at : Code → Doing → ℕ → Contract → List Old → Outcome Value → Verdict
after_body_at code d rep_ok contract olds o =
    then_judged (λ k. thrown_at code d rep_ok olds k (fitting_at code k 1 contract.signals.items) o.after) o (λ result u. checked_at d rep_ok contract.postconditions.items olds result u)

-- the whole, from a state on
abbrev pub verdict_at : Code → Doing → ℕ → Contract → State → Verdict
verdict_at code d rep_ok contract s =
    then_judged CheckTrap (olds_at d contract.olds.items s)
    (λ olds t. after_body_at code d rep_ok contract olds (body_at code d contract.method t))

-- ---- answers

-- a world without candidates
pub record IsPlain (w : World) : Type 0 where
  pub none : w.candidates ≡ []

-- the verdict on a part that has ended so
abbrev pub ended_as : (Kind → Verdict) → Stop → Verdict
ended_as trap (ends.Trapped kind) = trap kind
ended_as trap ends.OutOfFuel = Spent
ended_as trap ends.Stuck = Spent

-- In every meaning of the code, and whatever follows the part: it follows what the part has given, in the world that it leaves; or
-- this is the verdict.
abbrev pub Decides : {A : Type 0} → Code → Result A Verdict → World → (Doing → (A → State → Verdict) → Verdict) → Type 0
Decides {A} code (Ok a) w judged = IsPlain w × ((d : Doing) → IsMeaning code d → (next : A → State → Verdict) → judged d next ≡ next a (state_of w))
Decides {A} code (Err v) w judged = (d : Doing) → IsMeaning code d → (next : A → State → Verdict) → judged d next ≡ v

-- how a part ends, and the world that it leaves
pub record Ends (code : Code) (r : Result Value Stop) (w : World) (o : Doing → Outcome Value) : Type 0 where
  pub plain : IsPlain w
  pub said : (d : Doing) → IsMeaning code d → (o d).said ≡ r
  pub after : (d : Doing) → IsMeaning code d → (o d).after ≡ state_of w

-- likewise of a condition: where it holds, the test goes on
abbrev pub Holds : Code → Option Verdict → World → (Doing → (State → Verdict) → Verdict) → Type 0
Holds code None w judged = IsPlain w × ((d : Doing) → IsMeaning code d → (next : State → Verdict) → judged d next ≡ next (state_of w))
Holds code (Some v) w judged = (d : Doing) → IsMeaning code d → (next : State → Verdict) → judged d next ≡ v

-- the result is elsewhere
abbrev pub given_as : {A B E : Type 0} → B → Result A E → Result B E
given_as b (Ok a) = Ok b
given_as b (Err e) = Err e
