-- The log says who holds each segment and where it ends, and a lease is that of the segment as it then is.
use Rattle.std.proofs.Common.{◌≡◌, ◌≢◌, ℕ, ◌+◌, ◌<◌, List, [], ◌∷◌, Bool, true, false, ◌&&◌, not, ◌==◌, cond, refl, sym, ap, ◌∙◌, subst, arith, Option, Some, None}
use Rattle.std.specs.Prelude.{◌-◌, ◌^◌, nat_lt, nat_le, if◌then◌else◌}
use Rattle.std.specs.Option.{option_map}
use Rattle.std.proofs.lemmas.Bool.Decides.{nat_tests}
use Rattle.std.proofs.lemmas.Bool.{eqb-true, not-true, eq-eqb}
use Rattle.kr_base.specs.declared.span.Bound.{Bound}
use Rattle.kr_base.specs.declared.span.Bound.TheVariants.{At}
use Rattle.kr_base.specs.Bounds.{less, is_cut}
use Rattle.kr_base.proofs.Bounds.{irreflexive}
use Rattle.kr_core.specs.declared.segment.Segment.{Segment}
use Rattle.kr_core.specs.declared.event.Event.{Event}
use Rattle.kr_core.specs.declared.event.Event.TheVariants.{Take, Steal, Report, GiveUp, Drain, StopAt, Look}
use Rattle.kr_core.specs.declared.event.Lease.{Lease}
use Rattle.kr_core.specs.declared.event.Reply.{Reply}
use Rattle.kr_core.specs.declared.event.Reply.TheVariants.{Lease as Leased, Go, Done, Noted}
use Rattle.kr_core.specs.States.{State, has_remainder, is_owned, is_owned_by, is_closed, segment_of, change, Each}
use Rattle.kr_core.specs.Openings.{segments_at, end_of, opening}
use Rattle.kr_core.specs.Steps.{Step, after, may_take, may_steal, may_report, may_give_up, may_stop, owned, lowered, stolen, scanned, left, stopped, IsLease, IsLeased, IsReported}
use Rattle.kr_core.specs.Kept.{Runs, NumbersDiffer, IsKept}
use Rattle.kr_core.specs.Leases.{holder_after, holder_of, ends_after, ends_of, upto_of, opening_end, IsToldBy, OwnersLaw, IsHeld, IsFree, IsGranted, GoesOn, Leases, LeasesLaw, ExclusiveLaw}
use Rattle.kr_core.proofs.Bools.{and-left, and-right, owner_known}
use Rattle.kr_core.proofs.Chains.{Change}
use Rattle.kr_core.proofs.Places.{segment_of_change, segment_of_cut}
use Rattle.kr_core.proofs.Ends.{kept_law}
use Rattle.kr_core.proofs.Keeping.{step_keeps}

-- lists of segments

is-other : (a b : ℕ) → (a ≡ b → ⊥) → (a == b) ≡ false
is-other a b h = grind (arith, nat_tests)

each-map : (P Q : Segment → Type 0) → ((t : Segment) → P t → Q t) → (ss : List Segment) → Each P ss → Each Q ss
each-map P Q f [] h = tt
each-map P Q f (s ∷ ss) h = (f s h.0, each-map P Q f ss h.1)

each-zip : (P Q S : Segment → Type 0) → ((t : Segment) → P t → Q t → S t) → (ss : List Segment) → Each P ss → Each Q ss → Each S ss
each-zip P Q S f [] h k = tt
each-zip P Q S f (s ∷ ss) h k = (f s h.0 k.0, each-zip P Q S f ss h.1 k.1)

found-number : (n : ℕ) (ss : List Segment) (s : Segment) → segment_of n ss ≡ Some s → s.number ≡ n
found-number n [] s found = absurd (cc (found))
found-number n (t ∷ ss) s found =
    elim (t.number == n) as (λ b. (t.number == n) ≡ b → cond b (Some t) (segment_of n ss) ≡ Some s → s.number ≡ n) [
      | true ↦ λ e q. let same : t ≡ s = cc (q) in subst (λ (u : Segment). u.number ≡ n) same (eqb-true t.number n e)
      | false ↦ λ e q. found-number n ss s q
    ] refl found

each-found : (P : Segment → Type 0) (n : ℕ) (ss : List Segment) (s : Segment) → segment_of n ss ≡ Some s → Each P ss → P s
each-found P n [] s found h = absurd (cc (found))
each-found P n (t ∷ ss) s found h =
    elim (t.number == n) as (λ b. cond b (Some t) (segment_of n ss) ≡ Some s → P s) [
      | true ↦ λ q. let same : t ≡ s = cc (q) in subst P same h.0
      | false ↦ λ q. each-found P n ss s q h.1
    ] found

-- what holds of each, once one is changed
each-change : (P Q : Segment → Type 0) (n : ℕ) (f : Change) (s : Segment) (ss : List Segment) → NumbersDiffer ss → segment_of n ss ≡ Some s
    → ((t : Segment) → t.number ≢ n → P t → Q t) → ((rest : List Segment) → Each Q rest → Each Q (f s rest)) → Each P ss → Each Q (change n f ss)
each-change P Q n f s [] differ found other here h = absurd (cc (found))
each-change P Q n f s (t ∷ ss) differ found other here h =
    elim (t.number == n) as (λ b. (t.number == n) ≡ b → cond b (Some t) (segment_of n ss) ≡ Some s → Each Q (cond b (f t ss) (t ∷ change n f ss))) [
      | true ↦ λ e q.
          let same : t ≡ s = cc (q) in
          let at : t.number ≡ n = eqb-true t.number n e in
          let rest : Each Q ss = each-zip (λ u. u.number ≢ t.number) P Q (λ u d p. other u (λ x. d (x ∙ sym at)) p) ss differ.0 h.1 in
          subst (λ (u : Segment). Each Q (f u ss)) (sym same) (here ss rest)
      | false ↦ λ e q. (other t (λ x. absurd (cc (sym e ∙ eq-eqb t.number n x))) h.0, each-change P Q n f s ss differ.1 q other here h.1)
    ] refl found

each-left : (P : Segment → Type 0) → ((s : Segment) → P s → P (record s { rows = 0 })) → (ss : List Segment) → Each P ss → Each P (left ss)
each-left P f [] h = tt
each-left P f (s ∷ []) h = (f s h.0, tt)
each-left P f (s ∷ t ∷ ss) h =
    elim (is_closed s) as (λ b. Each P (cond b (left (t ∷ ss)) (record s { rows = 0 } ∷ (t ∷ ss)))) [ true ↦ each-left P f (t ∷ ss) h.1 | false ↦ (f s h.0, h.1) ]

-- owners and ends, told by what gives the holder and the end of each number

abbrev while : Bool → Option ℕ → Option ℕ
while remains holder = cond remains holder None

record Told (holder : ℕ → Option ℕ) (ends : ℕ → Bound) (g : Segment) : Type 0 where
  pub owner : g.owner ≡ while (has_remainder g) (holder g.number)
  pub upto : g.upto ≡ ends g.number

abbrev holders : (ℕ → Option ℕ) → Event → ℕ → Option ℕ
holders holder event m = holder_after m (holder m) event

told-same : (holder holder' : ℕ → Option ℕ) (ends ends' : ℕ → Bound) (g : Segment) → holder' g.number ≡ holder g.number → ends' g.number ≡ ends g.number → Told holder ends g → Told holder' ends' g
told-same holder holder' ends ends' g e f k = record { owner = k.owner ∙ ap (while (has_remainder g)) (sym e); upto = k.upto ∙ sym f }

while-false : (b : Bool) (o : Option ℕ) → b ≡ false → while b o ≡ None
while-false b o h = ap (λ (c : Bool). while c o) h

while-true : (b : Bool) (o : Option ℕ) → b ≡ true → while b o ≡ o
while-true b o h = ap (λ (c : Bool). while c o) h

while-none : (b : Bool) → while b None ≡ None
while-none true = refl
while-none false = refl

-- an owned segment has a remainder, and is its holder's
told-remains : (b : Bool) (o owner : Option ℕ) → owner ≡ while b o → is_owned owner ≡ true → (b ≡ true) × (owner ≡ o)
told-remains true o owner h own = (refl, h)
told-remains false o owner h own = absurd (cc (sym own ∙ ap is_owned h))

if-same : {A : Type 0} (n m : ℕ) (a b : A) → n ≡ m → cond (n == m) a b ≡ a
if-same n m a b h = ap (λ (c : Bool). cond c a b) (eq-eqb n m h)

if-other : {A : Type 0} (n m : ℕ) (a b : A) → (n ≡ m → ⊥) → cond (n == m) a b ≡ b
if-other n m a b h = ap (λ (c : Bool). cond c a b) (is-other n m h)

told-take : (holder : ℕ → Option ℕ) (ends : ℕ → Bound) (seat n : ℕ) (ss : List Segment) (o : Option Segment) → NumbersDiffer ss → segment_of n ss ≡ o → may_take o ≡ true → Each (Told holder ends) ss
    → Each (Told (holders holder (Take seat n)) ends) (change n (λ s rest. owned (Some seat) s ∷ rest) ss)
told-take holder ends seat n ss None differ found may h = absurd (cc (may))
told-take holder ends seat n ss (Some s) differ found may h =
    let number = found-number n ss s found in
    let remains : has_remainder s ≡ true = and-left (has_remainder s) _ may in
    let was = each-found (Told holder ends) n ss s found h in
    let here : Told (holders holder (Take seat n)) ends (owned (Some seat) s) = record {
      owner = sym (while-true (has_remainder s) _ remains ∙ if-same n s.number (Some seat) (holder s.number) (sym number));
      upto = was.upto;
    } in
    each-change (Told holder ends) (Told (holders holder (Take seat n)) ends) n (λ t rest. owned (Some seat) t ∷ rest) s ss differ found
    (λ t other p. told-same holder (holders holder (Take seat n)) ends ends t (if-other n t.number (Some seat) (holder t.number) (λ x. other (sym x))) refl p) (λ rest r. (here, r)) h

told-give_up : (holder : ℕ → Option ℕ) (ends : ℕ → Bound) (seat n : ℕ) (ss : List Segment) (o : Option Segment) → NumbersDiffer ss → segment_of n ss ≡ o → may_give_up seat o ≡ true → Each (Told holder ends) ss
    → Each (Told (holders holder (GiveUp seat n)) ends) (change n (λ s rest. owned None s ∷ rest) ss)
told-give_up holder ends seat n ss None differ found may h = absurd (cc (may))
told-give_up holder ends seat n ss (Some s) differ found may h =
    let number = found-number n ss s found in
    let was = each-found (Told holder ends) n ss s found h in
    let none : Option ℕ = None in
    let here : Told (holders holder (GiveUp seat n)) ends (owned None s) = record {
      owner = sym (ap (while (has_remainder s)) (if-same n s.number none (holder s.number) (sym number)) ∙ while-none (has_remainder s));
      upto = was.upto;
    } in
    each-change (Told holder ends) (Told (holders holder (GiveUp seat n)) ends) n (λ t rest. owned None t ∷ rest) s ss differ found
    (λ t other p. told-same holder (holders holder (GiveUp seat n)) ends ends t (if-other n t.number none (holder t.number) (λ x. other (sym x))) refl p) (λ rest r. (here, r)) h

-- with a number below the next one
record Numbered (next : ℕ) (holder : ℕ → Option ℕ) (ends : ℕ → Bound) (g : Segment) : Type 0 where
  pub number : g.number < next
  pub told : Told holder ends g

told-steal : (holder : ℕ → Option ℕ) (ends : ℕ → Bound) (seat victim : ℕ) (c : List ℕ) (n : ℕ) (ss : List Segment) (o : Option Segment) → NumbersDiffer ss → Each (λ g. g.number < n) ss → segment_of victim ss ≡ o
    → may_steal c o ≡ true → Each (Told holder ends) ss
    → Each (Told (holders holder (Steal seat victim c n)) (ends_after ends (Steal seat victim c n))) (change victim (λ s rest. lowered c s ∷ (stolen seat c n s ∷ rest)) ss)
told-steal holder ends seat victim c n ss None differ numbered found may h = absurd (cc (may))
told-steal holder ends seat victim c n ss (Some s) differ numbered found may h =
    let holder' = holders holder (Steal seat victim c n) in
    let ends' = ends_after ends (Steal seat victim c n) in
    let number = found-number victim ss s found in
    let low = each-found (λ g. g.number < n) victim ss s found numbered in
    let own = and-left (is_owned s.owner) _ may in
    let inside = and-right (is_owned s.owner) (less s.mark (At c) && less (At c) s.upto) may in
    let was = each-found (Told holder ends) victim ss s found h in
    let same = told-remains (has_remainder s) (holder s.number) s.owner was.owner own in
    let apart : n ≡ s.number → ⊥ = λ e. omega (arith, e, low) in
    let victims : Told holder' ends' (lowered c s) = record {
      owner = same.1 ∙ sym (while-true (less s.mark (At c)) _ (and-left (less s.mark (At c)) _ inside) ∙ if-other n s.number (Some seat) (holder s.number) apart);
      upto = sym (if-other n s.number (ends victim) (cond (victim == s.number) (At c) (ends s.number)) apart ∙ if-same victim s.number (At c) (ends s.number) (sym number));
    } in
    let rests : Told holder' ends' (stolen seat c n s) = record {
      owner = sym (while-true (less (At c) s.upto) _ (and-right (less s.mark (At c)) (less (At c) s.upto) inside) ∙ if-same n n (Some seat) (holder n) refl);
      upto = was.upto ∙ (ap ends number ∙ sym (if-same n n (ends victim) (cond (victim == n) (At c) (ends n)) refl));
    } in
    let more : Each (Numbered n holder ends) ss = each-zip (λ g. g.number < n) (Told holder ends) (Numbered n holder ends) (λ t l p. record { number = l; told = p }) ss numbered h in
    each-change (Numbered n holder ends) (Told holder' ends') victim (λ t rest. lowered c t ∷ (stolen seat c n t ∷ rest)) s ss differ found
    (λ t other p.
    let l = p.number in
    let new : n ≡ t.number → ⊥ = λ e. omega (arith, e, l) in
    told-same holder holder' ends ends' t (if-other n t.number (Some seat) (holder t.number) new)
    (if-other n t.number (ends victim) (cond (victim == t.number) (At c) (ends t.number)) new ∙ if-other victim t.number (At c) (ends t.number) (λ x. other (sym x))) p.told)
    (λ rest r. (victims, (rests, r))) more

-- of a segment that is scanned on, not to its spent end
scanned-owner : (b : Bool) (holder owner : Option ℕ) → owner ≡ holder → cond (not b) None owner ≡ while b holder
scanned-owner true holder owner h = h
scanned-owner false holder owner h = refl

told-scanned : (holder : ℕ → Option ℕ) (ends : ℕ → Bound) (seat n : ℕ) (reach : Bound) (rows tried : ℕ) (ss : List Segment) (s : Segment) → NumbersDiffer ss → segment_of n ss ≡ Some s
    → is_owned_by seat s.owner ≡ true → Each (Told holder ends) ss
    → Each (Told holder ends) (change n (λ t rest. scanned reach rows tried false t ∷ rest) ss)
told-scanned holder ends seat n reach rows tried ss s differ found own h =
    let was = each-found (Told holder ends) n ss s found h in
    let same = told-remains (has_remainder s) (holder s.number) s.owner was.owner (owner_known seat s.owner own) in
    let here : Told holder ends (scanned reach rows tried false s) = record { owner = scanned-owner (less reach s.upto) (holder s.number) s.owner same.1; upto = was.upto } in
    each-change (Told holder ends) (Told holder ends) n (λ t rest. scanned reach rows tried false t ∷ rest) s ss differ found (λ t other p. p) (λ rest r. (here, r)) h

told-spent : (holder : ℕ → Option ℕ) (ends : ℕ → Bound) (seat n : ℕ) (reach : Bound) (rows tried : ℕ) (ss : List Segment) (s : Segment) → NumbersDiffer ss → segment_of n ss ≡ Some s → Each (Told holder ends) ss
    → Each (Told holder (ends_after ends (Report seat n reach rows tried true))) (change n (λ t rest. scanned reach rows tried true t ∷ []) ss)
told-spent holder ends seat n reach rows tried ss s differ found h =
    let ends' = ends_after ends (Report seat n reach rows tried true) in
    let number = found-number n ss s found in
    let here : Told holder ends' (scanned reach rows tried true s) = record {
      owner = sym (while-false (less reach reach) (holder s.number) (irreflexive reach));
      upto = sym (if-same n s.number reach (ends s.number) (sym number));
    } in
    each-change (Told holder ends) (Told holder ends') n (λ t rest. scanned reach rows tried true t ∷ []) s ss differ found
    (λ t other p. told-same holder holder ends ends' t refl (if-other n t.number reach (ends t.number) (λ x. other (sym x))) p) (λ rest r. (here, tt)) h

told-report : (holder : ℕ → Option ℕ) (ends : ℕ → Bound) (seat n : ℕ) (reach : Bound) (rows tried : ℕ) (spent : Bool) (ss : List Segment) (o : Option Segment) → NumbersDiffer ss → segment_of n ss ≡ o
    → may_report seat reach rows tried spent o ≡ true → Each (Told holder ends) ss
    → Each (Told holder (ends_after ends (Report seat n reach rows tried spent))) (change n (λ s rest. scanned reach rows tried spent s ∷ (if spent then [] else rest)) ss)
told-report holder ends seat n reach rows tried spent ss None differ found may h = absurd (cc (may))
told-report holder ends seat n reach rows tried true ss (Some s) differ found may h = told-spent holder ends seat n reach rows tried ss s differ found h
told-report holder ends seat n reach rows tried false ss (Some s) differ found may h = told-scanned holder ends seat n reach rows tried ss s differ found (and-left (is_owned_by seat s.owner) _ may) h

told-stop : (holder : ℕ → Option ℕ) (ends : ℕ → Bound) (mark : List ℕ) (ss : List Segment) → may_stop mark ss ≡ true → Each (Told holder (ends_after ends (StopAt mark))) (stopped mark ss)
told-stop holder ends mark [] may = tt
told-stop holder ends mark (s ∷ ss) may =
    let past = not-true (less s.mark (At mark)) (and-left (not (less s.mark (At mark))) _ may) in
    (record { owner = sym (while-false (less s.mark (At mark)) (holder s.number) past); upto = refl }, tt)

told-after : (holder : ℕ → Option ℕ) (ends : ℕ → Bound) (old : State) (event : Event) (reply : Reply) (new : State) → IsKept old → Step old event reply new → Each (Told holder ends) old.segments
    → Each (Told (holders holder event) (ends_after ends event)) (after old event).segments
told-after holder ends old (Take seat n) reply new k step h = told-take holder ends seat n old.segments (segment_of n old.segments) k.differ refl step.fit h
told-after holder ends old (Steal seat victim c n) reply new k step h =
    let may = and-left (may_steal c (segment_of victim old.segments)) ((n == old.next) && nat_lt n (2 ^ 64 - 1)) step.fit in
    let same : n ≡ old.next = eqb-true n old.next (and-left (n == old.next) _ (and-right (may_steal c (segment_of victim old.segments)) ((n == old.next) && nat_lt n (2 ^ 64 - 1)) step.fit)) in
    told-steal holder ends seat victim c n old.segments (segment_of victim old.segments) k.differ (subst (λ (m : ℕ). Each (λ g. g.number < m) old.segments) (sym same) k.numbered) refl may h
told-after holder ends old (Report seat n reach rows tried spent) reply new k step h = told-report holder ends seat n reach rows tried spent old.segments (segment_of n old.segments) k.differ refl step.fit h
told-after holder ends old (GiveUp seat n) reply new k step h = told-give_up holder ends seat n old.segments (segment_of n old.segments) k.differ refl step.fit h
told-after holder ends old (Drain rows) reply new k step h = each-left (Told holder ends) (λ s p. record { owner = p.owner; upto = p.upto }) old.segments h
told-after holder ends old (StopAt mark) reply new k step h = told-stop holder ends mark old.segments step.fit
told-after holder ends old (Look seat) reply new k step h = h

-- by a list of events
record ToldBy (holder : ℕ → Option ℕ) (ends : ℕ → Bound) (events : List Event) (g : Segment) : Type 0 where
  pub owner : g.owner ≡ while (has_remainder g) (holder_of g.number (holder g.number) events)
  pub upto : g.upto ≡ ends_of ends events g.number

told-runs : (holder : ℕ → Option ℕ) (ends : ℕ → Bound) (old : State) (events : List Event) (new : State) → IsKept old → Runs old events new → Each (Told holder ends) old.segments
    → Each (ToldBy holder ends events) new.segments
told-runs holder ends old [] new k runs h =
    subst (λ (s : State). Each (ToldBy holder ends []) s.segments) (sym runs) (each-map (Told holder ends) (ToldBy holder ends []) (λ g p. record { owner = p.owner; upto = p.upto }) old.segments h)
told-runs holder ends old (event ∷ events) new k runs h =
    let step : Step old event runs.0 runs.1 = runs.2 in
    let next = subst (λ (s : State). Each (Told (holders holder event) (ends_after ends event)) s.segments) (sym step.new_is) (told-after holder ends old event runs.0 runs.1 k step h) in
    each-map (ToldBy (holders holder event) (ends_after ends event) events) (ToldBy holder ends (event ∷ events)) (λ g p. record { owner = p.owner; upto = p.upto }) new.segments
    (told-runs (holders holder event) (ends_after ends event) runs.1 events new (step_keeps old event runs.0 runs.1 step k) runs.3 next)

-- the opening state

each-own : (ss : List Segment) → NumbersDiffer ss → Each (λ g. segment_of g.number ss ≡ Some g) ss
each-own [] d = tt
each-own (s ∷ ss) d = (
  ap (λ (b : Bool). cond b (Some s) (segment_of s.number ss)) (eq-eqb s.number s.number refl),
  each-zip (λ t. t.number ≢ s.number) (λ t. segment_of t.number ss ≡ Some t) (λ t. segment_of t.number (s ∷ ss) ≡ Some t)
      (λ t other own. ap (λ (b : Bool). cond b (Some s) (segment_of t.number ss)) (is-other s.number t.number (λ x. other (sym x))) ∙ own) ss d.0 (each-own ss d.1),
)

opening-free : (k : ℕ) (a e : Bound) (cuts : List (List ℕ)) → Each (λ g. g.owner ≡ None) (segments_at k a cuts e)
opening-free k a e [] = (refl, tt)
opening-free k a e (c ∷ cs) = (refl, opening-free (k + 1) (At c) e cs)

nobody : ℕ → Option ℕ
nobody m = None

pub owners_law : OwnersLaw
unfolding nobody
owners_law span cuts events new inside runs =
    let begin = opening span cuts in
    let k : IsKept begin = kept_law span cuts [] begin inside refl in
    let first : Each (Told nobody (opening_end span cuts)) begin.segments =
    each-zip (λ g. g.owner ≡ None) (λ g. segment_of g.number begin.segments ≡ Some g) (Told nobody (opening_end span cuts))
    (λ g free own. record { owner = free ∙ sym (while-none (has_remainder g)); upto = sym (ap upto_of own) }) begin.segments (opening-free 0 (At span.after) (end_of span) cuts) (each-own begin.segments k.differ) in
    each-map (ToldBy nobody (opening_end span cuts) events) (IsToldBy span cuts events) (λ g p. record { owner = p.owner; upto = p.upto }) new.segments
    (told-runs nobody (opening_end span cuts) begin events new k runs first)

-- leases

owner-is : (seat : ℕ) (o : Option ℕ) → is_owned_by seat o ≡ true → o ≡ Some seat
owner-is seat None h = absurd (cc (h))
owner-is seat (Some other) h = ap (λ (n : ℕ). Some n) (eqb-true other seat h)

owner-none : (o : Option ℕ) → is_owned o ≡ false → o ≡ None
owner-none None h = refl
owner-none (Some seat) h = absurd (cc (h))

held : (seat n : ℕ) (s : State) (g : Segment) (lease : Lease) → segment_of n s.segments ≡ Some g → g.number ≡ n → g.owner ≡ Some seat → has_remainder g ≡ true → IsLease seat (Some g) lease → IsHeld seat n s lease
held seat n s g lease found number owner remains l = record {
  seat_is = l.0;
  number = l.1 ∙ number;
  segment = g;
  found = found;
  owner = owner;
  mark = sym l.2;
  upto = sym l.3;
  remains = ap (λ (b : Bound). less b lease.upto) l.2 ∙ (ap (λ (b : Bound). less g.mark b) l.3 ∙ remains);
}

granted : (seat n : ℕ) (s : State) (g : Segment) (reply : Reply) → segment_of n s.segments ≡ Some g → g.number ≡ n → g.owner ≡ Some seat → has_remainder g ≡ true → IsLeased seat (Some g) reply → IsGranted seat n s reply
granted seat n s g (Leased lease) found number owner remains l = held seat n s g lease found number owner remains l
granted seat n s g (Go lease) found number owner remains l = l
granted seat n s g Done found number owner remains l = l
granted seat n s g Noted found number owner remains l = l

leases-take : (seat n : ℕ) (ss : List Segment) (o : Option Segment) (new : State) (reply : Reply) → segment_of n ss ≡ o → may_take o ≡ true → new.segments ≡ change n (λ s rest. owned (Some seat) s ∷ rest) ss
    → IsLeased seat (segment_of n new.segments) reply → IsGranted seat n new reply
leases-take seat n ss None new reply found may is l = absurd (cc (may))
leases-take seat n ss (Some s) new reply found may is l =
    let there : segment_of n new.segments ≡ Some (owned (Some seat) s) = ap (segment_of n) is ∙ segment_of_change n ss (owned (Some seat)) s (λ t. refl) found in
    granted seat n new (owned (Some seat) s) reply there (found-number n ss s found) refl (and-left (has_remainder s) _ may) (subst (λ (x : Option Segment). IsLeased seat x reply) there l)

-- the rest of a theft is found under its new number
rest-found : (seat victim : ℕ) (c : List ℕ) (n : ℕ) (ss : List Segment) (s : Segment) → Each (λ g. g.number < n) ss → segment_of victim ss ≡ Some s
    → segment_of n (change victim (λ t rest. lowered c t ∷ (stolen seat c n t ∷ rest)) ss) ≡ Some (stolen seat c n s)
rest-found seat victim c n [] s numbered found = absurd (cc (found))
rest-found seat victim c n (t ∷ ss) s numbered found =
    let low = numbered.0 in
    let apart : (t.number == n) ≡ false = is-other t.number n (λ e. omega (arith, e, low)) in
    elim (t.number == victim) as (λ b. cond b (Some t) (segment_of victim ss) ≡ Some s
    → segment_of n (cond b (lowered c t ∷ (stolen seat c n t ∷ ss)) (t ∷ change victim (λ u rest. lowered c u ∷ (stolen seat c n u ∷ rest)) ss)) ≡ Some (stolen seat c n s)) [
      | true ↦ λ q.
          let same : t ≡ s = cc (q) in
          ap (λ (b : Bool). cond b (Some (lowered c t)) (cond (n == n) (Some (stolen seat c n t)) (segment_of n ss))) apart
          ∙ (ap (λ (b : Bool). cond b (Some (stolen seat c n t)) (segment_of n ss)) (eq-eqb n n refl) ∙ ap (λ (u : Segment). Some (stolen seat c n u)) same)
      | false ↦ λ q.
          ap (λ (b : Bool). cond b (Some t) (segment_of n (change victim (λ u rest. lowered c u ∷ (stolen seat c n u ∷ rest)) ss))) apart ∙ rest-found seat victim c n ss s numbered.1 q
    ] found

leases-steal : (seat victim : ℕ) (c : List ℕ) (n : ℕ) (ss : List Segment) (o : Option Segment) (new : State) (reply : Reply) → Each (λ g. g.number < n) ss → segment_of victim ss ≡ o → may_steal c o ≡ true
    → new.segments ≡ change victim (λ s rest. lowered c s ∷ (stolen seat c n s ∷ rest)) ss → IsLeased seat (option_map (stolen seat c n) o) reply → IsGranted seat n new reply
leases-steal seat victim c n ss None new reply numbered found may is l = absurd (cc (may))
leases-steal seat victim c n ss (Some s) new reply numbered found may is l =
    let inside = and-right (is_owned s.owner) (less s.mark (At c) && less (At c) s.upto) may in
    granted seat n new (stolen seat c n s) reply (ap (segment_of n) is ∙ rest-found seat victim c n ss s numbered found) refl refl (and-right (less s.mark (At c)) (less (At c) s.upto) inside) l

goes-on : (seat n : ℕ) (reach : Bound) (new : State) (g : Segment) (reply : Reply) → segment_of n new.segments ≡ Some g → g.number ≡ n → g.mark ≡ reach
    → (is_owned g.owner ≡ true → (has_remainder g ≡ true) × (g.owner ≡ Some seat)) → IsReported seat (Some g) reply → GoesOn seat n reach new reply
goes-on seat n reach new g (Leased lease) found number mark own l = l
goes-on seat n reach new g (Go lease) found number mark own l =
    let o = own l.1 in
    (l.0.2 ∙ mark, held seat n new g lease found number o.1 o.0 l.0)
goes-on seat n reach new g Done found number mark own l = subst IsFree (sym found) (owner-none g.owner l)
goes-on seat n reach new g Noted found number mark own l = l

scanned-owned : (b : Bool) (owner : Option ℕ) (seat : ℕ) → owner ≡ Some seat → is_owned (cond (not b) None owner) ≡ true → (b ≡ true) × (cond (not b) None owner ≡ Some seat)
scanned-owned true owner seat h own = (refl, h)
scanned-owned false owner seat h own = absurd (cc (own))

leases-report : (seat n : ℕ) (reach : Bound) (rows tried : ℕ) (spent : Bool) (ss : List Segment) (o : Option Segment) (new : State) (reply : Reply) → segment_of n ss ≡ o → may_report seat reach rows tried spent o ≡ true
    → new.segments ≡ change n (λ s rest. scanned reach rows tried spent s ∷ (if spent then [] else rest)) ss → IsReported seat (segment_of n new.segments) reply → GoesOn seat n reach new reply
leases-report seat n reach rows tried spent ss None new reply found may is l = absurd (cc (may))
leases-report seat n reach rows tried true ss (Some s) new reply found may is l =
    let g = scanned reach rows tried true s in
    let there : segment_of n new.segments ≡ Some g = ap (segment_of n) is ∙ segment_of_cut n ss (scanned reach rows tried true) s (λ t. refl) found in
    goes-on seat n reach new g reply there (found-number n ss s found) refl (λ own. absurd (cc (own))) (subst (λ (x : Option Segment). IsReported seat x reply) there l)
leases-report seat n reach rows tried false ss (Some s) new reply found may is l =
    let g = scanned reach rows tried false s in
    let there : segment_of n new.segments ≡ Some g = ap (segment_of n) is ∙ segment_of_change n ss (scanned reach rows tried false) s (λ t. refl) found in
    let owner = owner-is seat s.owner (and-left (is_owned_by seat s.owner) _ may) in
    goes-on seat n reach new g reply there (found-number n ss s found) refl (λ own. scanned-owned (less reach s.upto) s.owner seat owner own) (subst (λ (x : Option Segment). IsReported seat x reply) there l)

free-given_up : (seat n : ℕ) (ss : List Segment) (o : Option Segment) (new : State) → segment_of n ss ≡ o → may_give_up seat o ≡ true → new.segments ≡ change n (λ s rest. owned None s ∷ rest) ss → IsFree (segment_of n new.segments)
free-given_up seat n ss None new found may is = absurd (cc (may))
free-given_up seat n ss (Some s) new found may is = subst IsFree (sym (ap (segment_of n) is ∙ segment_of_change n ss (owned None) s (λ t. refl) found)) refl

leases : (old : State) (event : Event) (reply : Reply) (new : State) → IsKept old → Step old event reply new → Leases event new reply
leases old (Take seat n) reply new k step = leases-take seat n old.segments (segment_of n old.segments) new reply refl step.fit (ap (λ (s : State). s.segments) step.new_is) step.reply_is
leases old (Steal seat victim c n) reply new k step =
    let may = and-left (may_steal c (segment_of victim old.segments)) ((n == old.next) && nat_lt n (2 ^ 64 - 1)) step.fit in
    let same : n ≡ old.next = eqb-true n old.next (and-left (n == old.next) _ (and-right (may_steal c (segment_of victim old.segments)) ((n == old.next) && nat_lt n (2 ^ 64 - 1)) step.fit)) in
    leases-steal seat victim c n old.segments (segment_of victim old.segments) new reply (subst (λ (m : ℕ). Each (λ g. g.number < m) old.segments) (sym same) k.numbered) refl may
    (ap (λ (s : State). s.segments) step.new_is) step.reply_is
leases old (Report seat n reach rows tried spent) reply new k step =
    leases-report seat n reach rows tried spent old.segments (segment_of n old.segments) new reply refl step.fit (ap (λ (s : State). s.segments) step.new_is) step.reply_is
leases old (GiveUp seat n) reply new k step = (step.reply_is, free-given_up seat n old.segments (segment_of n old.segments) new refl step.fit (ap (λ (s : State). s.segments) step.new_is))
leases old (Drain rows) reply new k step = step.reply_is
leases old (StopAt mark) reply new k step = step.reply_is
leases old (Look seat) reply new k step = step.reply_is

pub leases_law : LeasesLaw
leases_law span cuts events old event reply new inside runs step = leases old event reply new (kept_law span cuts events old inside runs) step

-- what a lease is worth

and-false : (b : Bool) → (b && false) ≡ false
and-false true = refl
and-false false = refl

all-of : (a b c d : Bool) → a ≡ true → b ≡ true → c ≡ false → d ≡ true → (a && (b && (not c && d))) ≡ true
all-of a b c d ha hb hc hd = ap (λ (x : Bool). x && (b && (not c && d))) ha ∙ (ap (λ (x : Bool). x && (not c && d)) hb ∙ (ap (λ (x : Bool). not x && d) hc ∙ hd))

other-owner : (seat other : ℕ) (o : Option ℕ) → o ≡ Some seat → (other ≡ seat → ⊥) → is_owned_by other o ≡ false
other-owner seat other o is apart = ap (is_owned_by other) is ∙ is-other seat other (λ e. apart (sym e))

pub exclusive_law : ExclusiveLaw
exclusive_law seat n s lease h =
    let g = h.segment in
    let own : is_owned_by seat g.owner ≡ true = ap (is_owned_by seat) h.owner ∙ eq-eqb seat seat refl in
    record {
      reports = λ reach rows tried spent above below counts.
          ap (may_report seat reach rows tried spent) h.found
          ∙ all-of (is_owned_by seat g.owner) (less g.mark reach) (less g.upto reach) (if spent then is_cut reach && nat_lt rows tried else nat_le rows tried) own (ap (λ (b : Bound). less b reach) h.mark ∙ above)
          (ap (λ (b : Bound). less b reach) h.upto ∙ below) counts;
      gives_up = ap (may_give_up seat) h.found ∙ own;
      nobody_takes = λ other. ap may_take h.found ∙ (ap (λ (o : Option ℕ). has_remainder g && not (is_owned o)) h.owner ∙ and-false (has_remainder g));
      no_other_reports = λ other reach rows tried spent apart.
          ap (may_report other reach rows tried spent) h.found
          ∙ ap (λ (b : Bool). b && (less g.mark reach && (not (less g.upto reach) && (if spent then is_cut reach && nat_lt rows tried else nat_le rows tried)))) (other-owner seat other g.owner h.owner apart);
      no_other_gives_up = λ other apart. ap (may_give_up other) h.found ∙ other-owner seat other g.owner h.owner apart;
    }
