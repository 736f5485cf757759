-- The answers of the parts of a test.
use Rattle.std.proofs.Common.{◌≡◌, ◌<◌, ℕ, ◌+◌, true, List, [], ◌∷◌, ◌++◌, length, Result, Ok, Err, Option, Some, None, refl, sym, ap, ◌∙◌, subst, append_assoc, get_or}
use Rattle.std.specs.Prelude.{IfOk, drop, map, take}
use Rattle.std.proofs.lemmas.List.{drop_more, length-map, map-append, take-map}
use Rattle.kr_base.specs.declared.memory.NoMemory.{NoMemory}
use Rattle.kr_base.specs.declared.place.Place.{Place}
use Rattle.kr_value.specs.declared.value.Value.{Value}
use Rattle.kr_value.specs.declared.value.Value.TheVariants.{Null}
use Rattle.kr_mean.specs.declared.kind.Kind.{Kind}
use Rattle.kr_mean.specs.declared.kind.Verdict.{Verdict}
use Rattle.kr_mean.specs.declared.kind.Verdict.TheVariants.{CheckTrap, Ensures, RepOk}
use Rattle.kr_mean.specs.declared.kind.Stop.{Stop}
use Rattle.kr_mean.specs.Steps.{Local as StateLocal, Old, State, Outcome, Run, plain_local}
use Rattle.kr_mean.specs.Verdicts.{judged_as, naming, then_judged, where_holds}
use Rattle.kr_code.specs.declared.code.Code.{Code}
use Rattle.kr_code.specs.Doing.{Doing, IsMeaning}
use Rattle.kr_judge_prepared.specs.declared.contract.OldCode.{OldCode}
use Rattle.kr_run_state.specs.declared.world.World.{World}
use Rattle.kr_run_state.specs.declared.world.Halt.{Halt}
use Rattle.kr_run_state.specs.declared.world.Halt.TheVariants.{Ended, Memory}
use Rattle.kr_run_state.specs.Ends.{IsEnd}
use Rattle.kr_run_state.specs.Shown.{local_of, old_of}
use Rattle.kr_run_state.specs.Worlds.{Agrees, Others, Keeps, state_of}
use Rattle.kr_run_state.specs.declared.world.Local.{Local}
use Rattle.kr_run_state.specs.declared.world.Old.{Old as OldValue}
use Rattle.kr_run.specs.Answers.{Answers}
use Rattle.kr_run_method.proofs.Runs.{none_come}
use Rattle.kr_contract.specs.Tests.{Decides, Ends, Holds, IsPlain, checked_at, ended_as, ensured_at, olds_at, shown_to}
use Rattle.kr_contract.proofs.Judged.{judged_end, judged_naming, judged_then, then_same}

-- ---- from what the machine answers

-- a run's end as the machine's answer
abbrev pub halted : Result Value Stop → Result Value Halt
halted (Ok v) = Ok v
halted (Err e) = Err (Ended e)

pub answer_of : (r : Result Value Halt) (e : Result Value Stop) → IsEnd r (Ok e) → r ≡ halted e
answer_of r (Ok v) h = h
answer_of r (Err e) h = h

module _ (code : Code) (before w : World) (o : Doing → Others → Outcome Value) (trap : Kind → Verdict) (plain : IsPlain before) where
  stays : Keeps before w None → IsPlain w
  stays k = record { none = none_come w before plain.none k }

  pub decided : (v : Value) → Answers code (Ok v) w before o → Decides code (Ok v) w (λ d. then_judged trap (o d None))
  decided v a =
      let h = a None tt in
      (stays h.0, λ d m next. ap (λ (x : Outcome Value). judged_as trap x.said x.after next) (h.1 d m))

  pub ended : (h : Halt) (e : Stop) (verdict : Verdict) → h ≡ Ended e → verdict ≡ ended_as trap e → Answers code (Err h) w before o → Decides {A = Value} code (Err verdict) w (λ d. then_judged trap (o d None))
  ended h e verdict is same a =
      let k = subst (λ (g : Halt). Answers code (Err g) w before o) is a None tt in
      λ d m next. ap (λ (x : Outcome Value). judged_as trap x.said x.after next) (k.1 d m) ∙ (judged_end trap e (state_of w) next ∙ sym same)

  -- how it ends, and the world that it leaves
  pub ends_so : (e : Result Value Stop) → Answers code (halted e) w before o → Ends code e w (λ d. o d None)
  ends_so (Ok v) a =
      let h = a None tt in
      record { plain = stays h.0; said = λ d m. ap (λ (x : Outcome Value). x.said) (h.1 d m); after = λ d m. ap (λ (x : Outcome Value). x.after) (h.1 d m) }
  ends_so (Err e) a =
      let h = a None tt in
      record { plain = stays h.0; said = λ d m. ap (λ (x : Outcome Value). x.said) (h.1 d m); after = λ d m. ap (λ (x : Outcome Value). x.after) (h.1 d m) }

  pub ended_so : (answer : Result Value Halt) (r : Result (Result Value Stop) NoMemory) → IsEnd answer r → Answers code answer w before o → IfOk r (λ said. Ends code said w (λ d. o d None))
  ended_so answer (Ok e) h a = ends_so e (subst (λ (x : Result Value Halt). Answers code x w before o) (answer_of answer e h) a)
  ended_so answer (Err why) h a = tt

-- a step of the machine as an answer in every meaning
pub agreed : (code : Code) (r : Result Value Halt) (w before : World) (o : Others → Outcome Value) → Agrees r w before o → Answers code r w before (λ d x. o x)
agreed code (Ok v) w before o h = λ x a. let g = h x a in (g.0, λ d m. g.1)
agreed code (Err (Ended e)) w before o h = λ x a. let g = h x a in (g.0, λ d m. g.1)
agreed code (Err (Memory why)) w before o h = tt

-- ---- with an object as one more local

module _ (before within w after : World) (x : Local) (o : Value) (is : local_of x ≡ plain_local o) (pushed : within.locals.items ≡ before.locals.items ++ x ∷ []) (same : record (state_of within) { locals = [] } ≡ record (state_of before) { locals = [] })
    (cut : after.locals.items ≡ take (length before.locals.items) w.locals.items) (kept : record (state_of after) { locals = [] } ≡ record (state_of w) { locals = [] }) where
  inside : state_of within ≡ record (state_of before) { locals = (state_of before).locals ++ plain_local o ∷ [] }
  inside =
      ap (λ (s : State). record s { locals = map local_of within.locals.items }) same
      ∙ ap (λ (ls : List StateLocal). record (state_of before) { locals = ls }) (ap (map local_of) pushed ∙ (map-append local_of before.locals.items (x ∷ []) ∙ ap (λ (l : StateLocal). map local_of before.locals.items ++ l ∷ []) is))

  outside : record (state_of w) { locals = take (length (state_of before).locals) (state_of w).locals } ≡ state_of after
  outside =
      ap (λ (ls : List StateLocal). record (state_of w) { locals = ls }) (ap (λ (n : ℕ). take n (map local_of w.locals.items)) (length-map before.locals.items local_of) ∙ (take-map local_of (length before.locals.items) w.locals.items ∙ sym (ap (map local_of) cut)))
      ∙ sym (ap (λ (s : State). record s { locals = map local_of after.locals.items }) kept)

  pub named : (code : Code) (i : ℕ) (said : Result Value Verdict) → (IsPlain w → IsPlain after) → Decides code said w (λ d. then_judged CheckTrap (d.value i (state_of within)))
      → Decides code said after (λ d. then_judged CheckTrap (naming true o (d.value i) (state_of before)))
  named code i (Ok v) plain h = (
    plain h.0,
    λ d m next.
        judged_naming CheckTrap o (d.value i) (state_of before) next
        ∙ (ap (λ (s : State). then_judged CheckTrap (d.value i s) (λ a t. next a (record t { locals = take (length (state_of before).locals) t.locals }))) (sym inside)
        ∙ (h.1 d m (λ a t. next a (record t { locals = take (length (state_of before).locals) t.locals }))
        ∙ ap (next v) outside)),
  )
  named code i (Err verdict) plain h = λ d m next.
      judged_naming CheckTrap o (d.value i) (state_of before) next
      ∙ (ap (λ (s : State). then_judged CheckTrap (d.value i s) (λ a t. next a (record t { locals = take (length (state_of before).locals) t.locals }))) (sym inside)
      ∙ h d m (λ a t. next a (record t { locals = take (length (state_of before).locals) t.locals })))

-- ---- values of `\old`s

-- the value of one
abbrev pub valued_at : Doing → OldCode → Run Value
valued_at d o = naming o.is_named Null (d.value o.operand)

-- the rest of the `\old`s, after values that are there
abbrev pub OldsLead : Code → List OldCode → State → List OldCode → List OldValue → State → Type 0
OldsLead code all s rest values t =
    (d : Doing) → IsMeaning code d → (next : List Old → State → Verdict) → then_judged CheckTrap (olds_at d all s) next ≡ then_judged CheckTrap (olds_at d rest t) (λ os u. next (map old_of values ++ os) u)

-- one and then the others
olds_step : (d : Doing) (o : OldCode) (os : List OldCode) (s : State) (next : List Old → State → Verdict)
    → then_judged CheckTrap (olds_at d (o ∷ os) s) next ≡ then_judged CheckTrap (valued_at d o s) (λ v t. then_judged CheckTrap (olds_at d os t) (λ vs u. next (record { place = o.place; value = v } ∷ vs) u))
olds_step d o os s next =
    judged_then CheckTrap (valued_at d o) _ s next
    ∙ then_same CheckTrap (valued_at d o s) _ _ (λ v t. judged_then CheckTrap (olds_at d os) _ t next)

-- one more value
olds_more : (code : Code) (all : List OldCode) (s : State) (o : OldCode) (os : List OldCode) (values : List OldValue) (t : State) (x : OldValue) (w : World) → x.place ≡ o.place
    → OldsLead code all s (o ∷ os) values t → Decides code (Ok x.value) w (λ d. then_judged CheckTrap (valued_at d o t)) → OldsLead code all s os (values ++ x ∷ []) (state_of w)
olds_more code all s o os values t x w at h k = λ d m next.
    h d m next
    ∙ (olds_step d o os t (λ vs u. next (map old_of values ++ vs) u)
    ∙ (k.1 d m (λ v u. then_judged CheckTrap (olds_at d os u) (λ vs z. next (map old_of values ++ record { place = o.place; value = v } ∷ vs) z))
    ∙ then_same CheckTrap (olds_at d os (state_of w)) _ _ (λ vs u. ap (λ (xs : List Old). next xs u) (behind vs))))
  where
    y : Old
    y = record { place = o.place; value = x.value }

    is : y ≡ old_of x
    is = ap (λ (p : Place). record { place = p; value = x.value }) (sym at)

    behind : (vs : List Old) → map old_of values ++ y ∷ vs ≡ map old_of (values ++ x ∷ []) ++ vs
    behind vs =
        ap (λ (z : Old). map old_of values ++ z ∷ vs) is
        ∙ (sym (append_assoc (map old_of values) (old_of x ∷ []) vs)
        ∙ ap (λ (xs : List Old). xs ++ vs) (sym (map-append old_of values (x ∷ []))))

-- one has ended the test
olds_ended : (code : Code) (all : List OldCode) (s : State) (o : OldCode) (os : List OldCode) (values : List OldValue) (t : State) (verdict : Verdict) (w : World)
    → OldsLead code all s (o ∷ os) values t → Decides {A = Value} code (Err verdict) w (λ d. then_judged CheckTrap (valued_at d o t)) → Decides {A = List Old} code (Err verdict) w (λ d. then_judged CheckTrap (olds_at d all s))
olds_ended code all s o os values t verdict w h k = λ d m next.
    h d m next
    ∙ (olds_step d o os t (λ vs u. next (map old_of values ++ vs) u)
    ∙ k d m (λ v u. then_judged CheckTrap (olds_at d os u) (λ vs z. next (map old_of values ++ record { place = o.place; value = v } ∷ vs) z)))

abbrev pub OldValued : Code → Result Value Verdict → World → OldCode → State → Type 0
OldValued code said w o t = Decides code said w (λ d. then_judged CheckTrap (valued_at d o t))

-- the one at a position
pub olds_next : (code : Code) (all : List OldCode) (s : State) (k : ℕ) (x : OldCode) (values items : List OldValue) (t : State) (v : Value) (said : Result Value Verdict) (w : World) → k < length all → said ≡ Ok v
    → items ≡ values ++ record { place = (get_or all k x).place; value = v } ∷ [] → OldsLead code all s (drop k all) values t → OldValued code said w (get_or all k x) t → IsPlain w × OldsLead code all s (drop (k + 1) all) items (state_of w)
olds_next code all s k x values items t v said w there is new lead told =
    let o = get_or all k x in
    let d = subst (λ (r : Result Value Verdict). OldValued code r w o t) is told in
    let l = subst (λ (os : List OldCode). OldsLead code all s os values t) (drop_more all k x there) lead in (
      d.0,
      subst (λ (vs : List OldValue). OldsLead code all s (drop (k + 1) all) vs (state_of w)) (sym new) (olds_more code all s o (drop (k + 1) all) values t (record { place = o.place; value = v }) w refl l d),
    )

pub olds_stop : (code : Code) (all : List OldCode) (s : State) (k : ℕ) (x : OldCode) (values : List OldValue) (t : State) (verdict : Verdict) (said : Result Value Verdict) (w : World) → k < length all → said ≡ Err verdict
    → OldsLead code all s (drop k all) values t → OldValued code said w (get_or all k x) t → Decides {A = List Old} code (Err verdict) w (λ d. then_judged CheckTrap (olds_at d all s))
olds_stop code all s k x values t verdict said w there is lead told =
    olds_ended code all s (get_or all k x) (drop (k + 1) all) values t verdict w (subst (λ (os : List OldCode). OldsLead code all s os values t) (drop_more all k x there) lead)
    (subst (λ (r : Result Value Verdict). OldValued code r w (get_or all k x) t) is told)

-- ---- postconditions

-- the rest of the postconditions, from a number on
abbrev pub EnsuredLead : Code → List ℕ → State → ℕ → List ℕ → State → Type 0
EnsuredLead code all s n rest t = (d : Doing) → IsMeaning code d → ensured_at d 1 all s ≡ ensured_at d n rest t

-- one holds
ensured_more : (code : Code) (all : List ℕ) (s : State) (n i : ℕ) (is : List ℕ) (t : State) (w : World) → EnsuredLead code all s n (i ∷ is) t
    → Holds code None w (λ d next. then_judged CheckTrap (d.value i t) (λ v u. where_holds v (Ensures n) (next u))) → EnsuredLead code all s (n + 1) is (state_of w)
ensured_more code all s n i is t w h k = λ d m. h d m ∙ k.1 d m (λ u. ensured_at d (n + 1) is u)

-- one doesn't hold
ensured_ended : (code : Code) (all : List ℕ) (s : State) (n i : ℕ) (is : List ℕ) (t : State) (w : World) (verdict : Verdict) → EnsuredLead code all s n (i ∷ is) t
    → Holds code (Some verdict) w (λ d next. then_judged CheckTrap (d.value i t) (λ v u. where_holds v (Ensures n) (next u))) → (d : Doing) → IsMeaning code d → verdict ≡ ensured_at d 1 all s
ensured_ended code all s n i is t w verdict h k = λ d m. sym (h d m ∙ k d m (λ u. ensured_at d (n + 1) is u))

abbrev pub EnsuresHold : Code → Option Verdict → World → ℕ → ℕ → State → Type 0
EnsuresHold code said w n i t = Holds code said w (λ d next. then_judged CheckTrap (d.value i t) (λ v u. where_holds v (Ensures n) (next u)))

-- the one at a position
pub ensured_next : (code : Code) (all : List ℕ) (s : State) (n k : ℕ) (t : State) (said : Option Verdict) (w : World) → k < length all → said ≡ None
    → EnsuredLead code all s n (drop k all) t → EnsuresHold code said w n (get_or all k 0) t → IsPlain w × EnsuredLead code all s (n + 1) (drop (k + 1) all) (state_of w)
ensured_next code all s n k t said w there is lead told =
    let d = subst (λ (r : Option Verdict). EnsuresHold code r w n (get_or all k 0) t) is told in
    (d.0, ensured_more code all s n (get_or all k 0) (drop (k + 1) all) t w (subst (λ (is : List ℕ). EnsuredLead code all s n is t) (drop_more all k 0 there) lead) d)

pub ensured_stop : (code : Code) (all : List ℕ) (s : State) (n k : ℕ) (t : State) (verdict : Verdict) (said : Option Verdict) (w : World) → k < length all → said ≡ Some verdict
    → EnsuredLead code all s n (drop k all) t → EnsuresHold code said w n (get_or all k 0) t → (d : Doing) → IsMeaning code d → verdict ≡ ensured_at d 1 all s
ensured_stop code all s n k t verdict said w there is lead told =
    ensured_ended code all s n (get_or all k 0) (drop (k + 1) all) t w verdict (subst (λ (is : List ℕ). EnsuredLead code all s n is t) (drop_more all k 0 there) lead)
    (subst (λ (r : Option Verdict). EnsuresHold code r w n (get_or all k 0) t) is told)

-- ---- after the body

abbrev pub RepOkHolds : Code → Option Verdict → World → ℕ → State → Type 0
RepOkHolds code said w i t = Holds code said w (λ d next. then_judged CheckTrap (d.value i t) (λ v u. where_holds v RepOk (next u)))

pub rep_ok_fails : (code : Code) (i : ℕ) (ns : List ℕ) (olds : List Old) (given : Value) (t : State) (verdict : Verdict) (said : Option Verdict) (w : World) → said ≡ Some verdict → RepOkHolds code said w i t
    → (d : Doing) → IsMeaning code d → verdict ≡ checked_at d i ns olds given t
rep_ok_fails code i ns olds given t verdict said w is told d m =
    sym (subst (λ (r : Option Verdict). RepOkHolds code r w i t) is told d m (λ u. ensured_at d 1 ns (shown_to olds given u)))

pub rep_ok_holds : (code : Code) (i : ℕ) (ns all : List ℕ) (olds : List Old) (given : Value) (t : State) (said : Option Verdict) (w x : World) (r : Result Verdict NoMemory) → said ≡ None → RepOkHolds code said w i t
    → state_of x ≡ shown_to olds given (state_of w) → ns ≡ all → IfOk r (λ verdict. (d : Doing) → IsMeaning code d → verdict ≡ ensured_at d 1 ns (state_of x)) → IfOk r (λ verdict. (d : Doing) → IsMeaning code d → verdict ≡ checked_at d i all olds given t)
rep_ok_holds code i ns all olds given t said w x (Ok verdict) is told shown same h = λ d m.
    h d m
    ∙ (ap (λ (is : List ℕ). ensured_at d 1 is (state_of x)) same
    ∙ (ap (ensured_at d 1 all) shown
    ∙ sym ((subst (λ (r : Option Verdict). RepOkHolds code r w i t) is told).1 d m (λ u. ensured_at d 1 all (shown_to olds given u)))))
rep_ok_holds code i ns all olds given t said w x (Err why) is told shown same h = tt

-- ---- arguments

-- the values of locals as the state has them
pub values_in_state : (ls : List Local) → map (λ l. l.value) (map local_of ls) ≡ map (λ l. l.value) ls
values_in_state [] = refl
values_in_state (l ∷ ls) = ap (λ (vs : List Value). l.value ∷ vs) (values_in_state ls)
