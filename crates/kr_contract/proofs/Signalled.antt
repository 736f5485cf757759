-- The answers of the parts of a test whose body throws.
use Rattle.std.proofs.Common.{◌≡◌, ◌<◌, ℕ, ◌+◌, Bool, true, false, List, [], ◌∷◌, length, Result, Ok, Err, Option, Some, None, refl, sym, ap, ◌∙◌, subst, get_or, if◌then◌else◌}
use Rattle.std.specs.Prelude.{IfOk, drop}
use Rattle.std.proofs.lemmas.List.{drop_more}
use Rattle.kr_base.specs.declared.memory.NoMemory.{NoMemory}
use Rattle.kr_value.specs.declared.value.Value.{Value}
use Rattle.kr_mean.specs.declared.kind.Kind.{Kind}
use Rattle.kr_mean.specs.declared.kind.Verdict.{Verdict}
use Rattle.kr_mean.specs.Steps.{Old, State}
use Rattle.kr_code.specs.declared.code.Code.{Code}
use Rattle.kr_code.specs.Doing.{Doing, IsMeaning}
use Rattle.kr_code.specs.Tables.{class_in_kind, is_caught_by}
use Rattle.kr_judge_prepared.specs.declared.contract.SignalCode.{SignalCode}
use Rattle.kr_run_state.specs.declared.world.World.{World}
use Rattle.kr_run_state.specs.Worlds.{state_of}
use Rattle.kr_contract.specs.Tests.{Holds, IsPlain, fitting_at, no_clause, signal_judged, signalled_at, signals_at}
use Rattle.kr_contract.proofs.Decided.{RepOkHolds}

-- ---- which clauses fit

pub first_fits : (code : Code) (k : Kind) (n : ℕ) (c : SignalCode) (cs : List SignalCode) → is_caught_by code c.caught (class_in_kind code k) ≡ true → no_clause (fitting_at code k n (c ∷ cs)) ≡ false
first_fits code k n c cs h = ap (λ (b : Bool). no_clause (if b then (n, c) ∷ fitting_at code k (n + 1) cs else fitting_at code k (n + 1) cs)) h

pub first_passed : (code : Code) (k : Kind) (n : ℕ) (c : SignalCode) (cs : List SignalCode) → is_caught_by code c.caught (class_in_kind code k) ≡ false → no_clause (fitting_at code k n (c ∷ cs)) ≡ no_clause (fitting_at code k (n + 1) cs)
first_passed code k n c cs h = ap (λ (b : Bool). no_clause (if b then (n, c) ∷ fitting_at code k (n + 1) cs else fitting_at code k (n + 1) cs)) h

-- whether one fits doesn't depend on the numbers
pub nothing_numbered : (code : Code) (k : Kind) (n m : ℕ) (cs : List SignalCode) → no_clause (fitting_at code k n cs) ≡ no_clause (fitting_at code k m cs)
nothing_numbered code k n m [] = refl
nothing_numbered code k n m (c ∷ cs) = go (is_caught_by code c.caught (class_in_kind code k)) (nothing_numbered code k (n + 1) (m + 1) cs)
  where
    go : (b : Bool) → no_clause (fitting_at code k (n + 1) cs) ≡ no_clause (fitting_at code k (m + 1) cs)
        → no_clause (if b then (n, c) ∷ fitting_at code k (n + 1) cs else fitting_at code k (n + 1) cs) ≡ no_clause (if b then (m, c) ∷ fitting_at code k (m + 1) cs else fitting_at code k (m + 1) cs)
    go true h = refl
    go false h = h

-- the one at a position
pub fits_at : (code : Code) (k : Kind) (all : List SignalCode) (j : ℕ) (x : SignalCode) → j < length all → no_clause (fitting_at code k 1 all) ≡ no_clause (fitting_at code k 1 (drop j all)) → is_caught_by code (get_or all j x).caught (class_in_kind code k) ≡ true
    → false ≡ no_clause (fitting_at code k 1 all)
fits_at code k all j x there lead h = sym (lead ∙ (ap (λ (cs : List SignalCode). no_clause (fitting_at code k 1 cs)) (drop_more all j x there) ∙ first_fits code k 1 (get_or all j x) (drop (j + 1) all) h))

pub passed_at : (code : Code) (k : Kind) (all : List SignalCode) (j : ℕ) (x : SignalCode) → j < length all → no_clause (fitting_at code k 1 all) ≡ no_clause (fitting_at code k 1 (drop j all)) → is_caught_by code (get_or all j x).caught (class_in_kind code k) ≡ false
    → no_clause (fitting_at code k 1 all) ≡ no_clause (fitting_at code k 1 (drop (j + 1) all))
passed_at code k all j x there lead h =
    lead ∙ (ap (λ (cs : List SignalCode). no_clause (fitting_at code k 1 cs)) (drop_more all j x there)
    ∙ (first_passed code k 1 (get_or all j x) (drop (j + 1) all) h ∙ nothing_numbered code k 2 1 (drop (j + 1) all)))

-- ---- clauses one after another

-- the rest of the clauses, from a number on
abbrev pub SignalsLead : Code → Kind → Value → List SignalCode → State → ℕ → List SignalCode → State → Type 0
SignalsLead code k o all s n rest t = (d : Doing) → IsMeaning code d → signalled_at d o (fitting_at code k 1 all) s ≡ signalled_at d o (fitting_at code k n rest) t

first_judged : (code : Code) (d : Doing) (k : Kind) (o : Value) (n : ℕ) (c : SignalCode) (cs : List SignalCode) (t : State)
    → signalled_at d o (fitting_at code k n (c ∷ cs)) t ≡ signal_judged d o n c (is_caught_by code c.caught (class_in_kind code k)) t (λ u. signalled_at d o (fitting_at code k (n + 1) cs) u)
first_judged code d k o n c cs t = go (is_caught_by code c.caught (class_in_kind code k))
  where
    go : (b : Bool) → signalled_at d o (if b then (n, c) ∷ fitting_at code k (n + 1) cs else fitting_at code k (n + 1) cs) t ≡ signal_judged d o n c b t (λ u. signalled_at d o (fitting_at code k (n + 1) cs) u)
    go true = refl
    go false = refl

abbrev pub SignalHolds : Code → Option Verdict → World → Kind → Value → ℕ → SignalCode → State → Type 0
SignalHolds code said w k o n c t = Holds code said w (λ d next. signal_judged d o n c (is_caught_by code c.caught (class_in_kind code k)) t next)

pub signals_next : (code : Code) (k : Kind) (o : Value) (all : List SignalCode) (s : State) (n j : ℕ) (x : SignalCode) (t : State) (said : Option Verdict) (w : World) → j < length all → said ≡ None
    → SignalsLead code k o all s n (drop j all) t → SignalHolds code said w k o n (get_or all j x) t → IsPlain w × SignalsLead code k o all s (n + 1) (drop (j + 1) all) (state_of w)
signals_next code k o all s n j x t said w there is lead told =
    let c = get_or all j x in
    let cs = drop (j + 1) all in
    let h = subst (λ (r : Option Verdict). SignalHolds code r w k o n c t) is told in
    let l = subst (λ (rest : List SignalCode). SignalsLead code k o all s n rest t) (drop_more all j x there) lead in
    (h.0, λ d m. l d m ∙ (first_judged code d k o n c cs t ∙ h.1 d m (λ u. signalled_at d o (fitting_at code k (n + 1) cs) u)))

pub signals_stop : (code : Code) (k : Kind) (o : Value) (all : List SignalCode) (s : State) (n j : ℕ) (x : SignalCode) (t : State) (verdict : Verdict) (said : Option Verdict) (w : World) → j < length all → said ≡ Some verdict
    → SignalsLead code k o all s n (drop j all) t → SignalHolds code said w k o n (get_or all j x) t → (d : Doing) → IsMeaning code d → verdict ≡ signalled_at d o (fitting_at code k 1 all) s
signals_stop code k o all s n j x t verdict said w there is lead told = λ d m.
    let c = get_or all j x in
    let cs = drop (j + 1) all in
    let h = subst (λ (r : Option Verdict). SignalHolds code r w k o n c t) is told in
    let l = subst (λ (rest : List SignalCode). SignalsLead code k o all s n rest t) (drop_more all j x there) lead in
    sym (l d m ∙ (first_judged code d k o n c cs t ∙ h d m (λ u. signalled_at d o (fitting_at code k (n + 1) cs) u)))

-- ---- after `this.repOk()`

pub object_fails : (code : Code) (i : ℕ) (cs : List (ℕ × SignalCode)) (olds : List Old) (o : Value) (t : State) (verdict : Verdict) (said : Option Verdict) (w : World) → said ≡ Some verdict → RepOkHolds code said w i t
    → (d : Doing) → IsMeaning code d → verdict ≡ signals_at d i olds o cs t
object_fails code i cs olds o t verdict said w is told d m =
    sym (subst (λ (r : Option Verdict). RepOkHolds code r w i t) is told d m (λ u. signalled_at d o cs (record u { olds = olds })))

pub object_holds : (code : Code) (i : ℕ) (k : Kind) (cs all : List SignalCode) (olds : List Old) (o : Value) (t : State) (said : Option Verdict) (w x : World) (r : Result Verdict NoMemory) → said ≡ None → RepOkHolds code said w i t
    → state_of x ≡ record (state_of w) { olds = olds } → cs ≡ all → IfOk r (λ verdict. (d : Doing) → IsMeaning code d → verdict ≡ signalled_at d o (fitting_at code k 1 cs) (state_of x))
    → IfOk r (λ verdict. (d : Doing) → IsMeaning code d → verdict ≡ signals_at d i olds o (fitting_at code k 1 all) t)
object_holds code i k cs all olds o t said w x (Ok verdict) is told shown same h = λ d m.
    h d m
    ∙ (ap (λ (us : List SignalCode). signalled_at d o (fitting_at code k 1 us) (state_of x)) same
    ∙ (ap (signalled_at d o (fitting_at code k 1 all)) shown
    ∙ sym ((subst (λ (r : Option Verdict). RepOkHolds code r w i t) is told).1 d m (λ u. signalled_at d o (fitting_at code k 1 all) (record u { olds = olds })))))
object_holds code i k cs all olds o t said w x (Err why) is told shown same h = tt
