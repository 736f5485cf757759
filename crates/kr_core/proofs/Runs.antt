-- Every run keeps what holds of the segments: Drain and StopAt, one step, and all steps.
use Rattle.std.proofs.Common.{◌≡◌, ℕ, suc, ◌+◌, ◌-◌, ◌^◌, List, [], ◌∷◌, Bool, true, false, ◌&&◌, not, ◌==◌, length, refl, sym, ap, ◌∙◌, subst, arith, Option, Some, None, cond}
use Rattle.std.specs.Prelude.{nat_lt, ◌||◌, if◌then◌else◌}
use Rattle.std.specs.List.{sum_by}
use Rattle.std.proofs.lemmas.List.Sums.{sum_by-cons}
use Rattle.std.proofs.lemmas.Bool.Decides.{nat_tests}
use Rattle.std.proofs.lemmas.Bool.{eqb-true, not-true}
use Rattle.kr_base.specs.declared.span.Bound.{Bound}
use Rattle.kr_base.specs.declared.span.Bound.TheVariants.{At}
use Rattle.kr_base.specs.declared.entry.Entry.{Entry}
use Rattle.kr_base.specs.Bounds.{less}
use Rattle.kr_base.specs.Entries.{Ascends, within, NoneSpent}
use Rattle.kr_base.proofs.Bounds.{irreflexive, connected, not_above}
use Rattle.kr_core.specs.declared.segment.Segment.{Segment}
use Rattle.kr_core.specs.declared.event.Event.{Event}
use Rattle.kr_core.specs.declared.event.Event.TheVariants.{Take, Steal, Report, GiveUp, Drain, StopAt, Look}
use Rattle.kr_core.specs.declared.event.Reply.{Reply}
use Rattle.kr_base.specs.Causes.{capped}
use Rattle.kr_core.specs.States.{State, has_remainder, is_owned, is_closed, segment_of, change}
use Rattle.kr_core.specs.Steps.{Step, may_take, may_steal, may_report, may_give_up, may_stop, gone, left, stopped, owned, scanned, lowered, stolen}
use Rattle.kr_core.specs.Kept.{Runs}
use Rattle.kr_core.specs.Counts.{EndsSpent, TellsFrom, IsHonest, HonestRuns}
use Rattle.kr_core.proofs.Bools.{and-left, and-right, owner_known}
use Rattle.kr_core.proofs.Spent.{within-append, within-length, NoneSpent-append}
use Rattle.kr_core.proofs.Chains.{IsLink, Lacks, EndsAs, Chain, Front}
use Rattle.kr_core.proofs.Steps.{kept-take, kept-give_up, kept-steal, reaches, kept-report, kept-report_spent, chain-up}

-- a closed segment's mark is its upto
pub closed-mark : {R : Type 0} (P : Type 0) (es : List (Entry R)) (next : ℕ) (a : Bound) (s : Segment) → IsLink P es next a s → is_closed s ≡ true → s.mark ≡ s.upto
closed-mark P es next a s l h =
    connected s.mark s.upto (not-true (has_remainder s) (and-right (not (is_owned s.owner)) (not (has_remainder s)) h)) l.high

abbrev pub no_entries : List (Entry ℕ)
no_entries = []

-- Drain

abbrev emptied : Segment → Segment
emptied s = record s { rows = 0 }

empty-first : {R : Type 0} (P : Type 0) (es : List (Entry R)) (next : ℕ) (flag : Bool) (last : Option Segment) (a : Bound) (s : Segment) (ss : List Segment) (e : Bound)
    → Chain P es next flag last a (s ∷ ss) e → Chain P es next flag last a (emptied s ∷ ss) e
empty-first P es next true last a s [] e h =
    (h.0, (record { adjoins = h.1.0.adjoins; low = h.1.0.low; high = h.1.0.high; remains = h.1.0.remains; numbered = h.1.0.numbered; tried = h.1.0.tried }, h.1.1))
empty-first P es next false last a s [] e h =
    (h.0, (record { adjoins = h.1.0.adjoins; low = h.1.0.low; high = h.1.0.high; remains = h.1.0.remains; numbered = h.1.0.numbered; tried = h.1.0.tried }, h.1.1))
empty-first P es next flag last a s (t ∷ ss) e h =
    (h.0, (record { adjoins = h.1.0.adjoins; low = h.1.0.low; high = h.1.0.high; remains = h.1.0.remains; numbered = h.1.0.numbered; tried = h.1.0.tried }, h.1.1))

abbrev tried_in : List Segment → ℕ
tried_in ss = sum_by (λ s. s.tried) ss

drain-front : {R : Type 0} (P : Type 0) (es : List (Entry R)) (from top : Bound) (next before : ℕ) (flag : Bool) (s : Segment) (ss : List Segment) (e : Bound) → Ascends es
    → Front P es from top next before flag (s ∷ ss) e → Front P es from top next (capped (before + tried_in (gone (s ∷ ss)))) flag (left (s ∷ ss)) e
drain-front P es from top next before flag s [] e asc k =
    record { above = k.above; below = k.below; past = λ p. omega (arith, k.past p); past_free = k.past_free; chain = empty-first P es next flag None s.after s [] e k.chain }
drain-front {R} P es from top next before flag s (t ∷ ss) e asc k =
    elim (is_closed s) as (λ b. is_closed s ≡ b → Front P es from top next (capped (before + tried_in (cond b (s ∷ gone (t ∷ ss)) []))) flag (cond b (left (t ∷ ss)) (emptied s ∷ (t ∷ ss))) e) [
      | true ↦ λ h.
          let l = k.chain.1.0 in
          let u = k.chain.1.1.1.1.0 in
          let at : s.mark ≡ s.upto = closed-mark P es next s.after s l h in
          let here : s.mark ≡ t.after = at ∙ sym u.adjoins in
          let above : less s.mark from ≡ false = not_above from s.after s.mark k.above l.low in
          let both = within-length from s.after s.mark es asc k.above l.low in
          let more = drain-front P es from top next (capped (before + s.tried)) flag t ss e asc (record {
            above = subst (λ (b : Bound). less b from ≡ false) here above;
            below = k.below;
            past = λ p. subst (λ (b : Bound). capped (before + s.tried) ≡ capped (length (within from b es))) here (omega (arith, k.past p, l.tried p, both));
            past_free = λ p. subst (λ (b : Bound). NoneSpent (within from b es)) here
                (subst (λ (xs : List (Entry R)). NoneSpent xs) (within-append from s.after s.mark es asc k.above l.low)
                (NoneSpent-append (within from s.after es) (within s.after s.mark es) (k.past_free p) (k.chain.1.1.1.0 p)));
            chain = (tt, subst (λ (b : Bound). IsLink P es next b t × (Lacks t.number ss × Chain P es next flag (Some t) t.upto ss e)) (sym u.adjoins) k.chain.1.1.1.1);
          }) in
          let sum : tried_in (s ∷ gone (t ∷ ss)) ≡ s.tried + tried_in (gone (t ∷ ss)) = sum_by-cons (λ x. x.tried) s (gone (t ∷ ss)) in
          record { above = more.above; below = more.below; past = λ p. omega (arith, more.past p, sum); past_free = more.past_free; chain = more.chain }
      | false ↦ λ h. record { above = k.above; below = k.below; past = λ p. omega (arith, k.past p); past_free = k.past_free; chain = empty-first P es next flag None s.after s (t ∷ ss) e k.chain }
    ] refl

kept-drain : {R : Type 0} (P : Type 0) (es : List (Entry R)) (from top : Bound) (next before : ℕ) (flag : Bool) (segs : List Segment) (e : Bound) → Ascends es
    → Front P es from top next before flag segs e → Front P es from top next (capped (before + tried_in (gone segs))) flag (left segs) e
kept-drain P es from top next before flag [] e asc k = absurd (k.chain.1)
kept-drain P es from top next before flag (s ∷ ss) e asc k = drain-front P es from top next before flag s ss e asc k

-- StopAt

two-not_one : (n : ℕ) → (suc (suc n) == 1) ≡ false
two-not_one n = grind (arith, nat_tests)

stop-ends : {R : Type 0} (P : Type 0) (es : List (Entry R)) (next : ℕ) (flag : Bool) (a : Bound) (s : Segment) (ss : List Segment) (e : Bound) (m : List ℕ) → s.mark ≡ At m → IsLink P es next a s
    → Chain P es next flag (Some s) s.upto ss e → EndsAs P es ((length (s ∷ ss) == 1) && flag) (record s { upto = At m; owner = None })
stop-ends P es next true a s [] e m is l h =
    let at : s.upto ≡ At m = sym (closed-mark P es next a s l h.1.0) ∙ is in (
      ap not (subst (λ (b : Bound). less s.mark b ≡ false) is (irreflexive s.mark)),
      λ p. subst (λ (b : Bound). EndsSpent b (within s.after s.mark es)) at (h.1.1 p),
    )
stop-ends P es next false a s [] e m is l h = h.1
stop-ends P es next flag a s (t ∷ ss) e m is l h =
    subst (λ (b : Bool). EndsAs P es (b && flag) (record s { upto = At m; owner = None })) (sym (two-not_one (length ss))) h.0

stop-front : {R : Type 0} (P : Type 0) (es : List (Entry R)) (from top : Bound) (next before : ℕ) (flag : Bool) (s : Segment) (ss : List Segment) (e : Bound) (m : List ℕ) → s.mark ≡ At m
    → Front P es from top next before flag (s ∷ ss) e → Front P es from top next before ((length (s ∷ ss) == 1) && flag) (stopped m (s ∷ ss)) (At m)
stop-front P es from top next before flag s ss e m is k =
    let l = k.chain.1.0 in
    let up : less e s.mark ≡ false = not_above s.mark s.upto e l.high (chain-up P es next flag (Some s) s.upto ss e k.chain.1.1.1) in
    let below : less top (At m) ≡ false = subst (λ (b : Bound). less top b ≡ false) is (not_above s.mark e top up k.below) in
    let t : Segment = record s { upto = At m; owner = None } in
    let same : less (At m) s.mark ≡ false = subst (λ (b : Bound). less b s.mark ≡ false) is (irreflexive s.mark) in
    let link : IsLink P es next s.after t = record { adjoins = refl; low = l.low; high = same; remains = λ q. absurd (cc (q)); numbered = l.numbered; tried = l.tried } in
    record {
      above = k.above;
      below = below;
      past = k.past;
      past_free = k.past_free;
      chain = (tt, (link, (tt, (refl, stop-ends P es next flag s.after s ss e m is l k.chain.1.1.1))));
    }

kept-stop : {R : Type 0} (P : Type 0) (es : List (Entry R)) (from top : Bound) (next before : ℕ) (flag : Bool) (segs : List Segment) (e : Bound) (m : List ℕ) → may_stop m segs ≡ true
    → Front P es from top next before flag segs e → Front P es from top next before ((length segs == 1) && flag) (stopped m segs) (At m)
kept-stop P es from top next before flag [] e m may k = absurd (cc (may))
kept-stop P es from top next before flag (s ∷ ss) e m may k =
    let low = not-true (less s.mark (At m)) (and-left (not (less s.mark (At m))) (not (less (At m) s.mark)) may) in
    let high = not-true (less (At m) s.mark) (and-right (not (less s.mark (At m))) (not (less (At m) s.mark)) may) in
    stop-front P es from top next before flag s ss e m (connected s.mark (At m) low high) k

-- One step

-- what holds of a state
abbrev pub Holds : {R : Type 0} → Type 0 → List (Entry R) → Bound → Bound → State → Type 0
Holds P es from top s = Front P es from top s.next s.past s.spent s.segments s.end

take-at : {R : Type 0} (P : Type 0) (es : List (Entry R)) (from top : Bound) (old : State) (seat n : ℕ) (o : Option Segment) → segment_of n old.segments ≡ o → may_take o ≡ true → Holds P es from top old
    → Holds P es from top (record old { segments = change n (λ s ss. owned (Some seat) s ∷ ss) old.segments })
take-at P es from top old seat n None found may k = absurd (cc (may))
take-at P es from top old seat n (Some s) found may k =
    kept-take P es from top old.next old.past old.spent old.segments old.end seat n s found (and-left (has_remainder s) (not (is_owned s.owner)) may) k

give_up-at : {R : Type 0} (P : Type 0) (es : List (Entry R)) (from top : Bound) (old : State) (seat n : ℕ) (o : Option Segment) → segment_of n old.segments ≡ o → may_give_up seat o ≡ true → Holds P es from top old
    → Holds P es from top (record old { segments = change n (λ s ss. owned None s ∷ ss) old.segments })
give_up-at P es from top old seat n None found may k = absurd (cc (may))
give_up-at P es from top old seat n (Some s) found may k =
    kept-give_up P es from top old.next old.past old.spent old.segments old.end n s found (owner_known seat s.owner may) k

steal-at : {R : Type 0} (P : Type 0) (es : List (Entry R)) (from top : Bound) (old : State) (seat victim : ℕ) (c : List ℕ) (n : ℕ) (o : Option Segment) → segment_of victim old.segments ≡ o
    → (may_steal c o && ((n == old.next) && nat_lt n (2 ^ 64 - 1))) ≡ true → Holds P es from top old
    → Holds P es from top (record old { segments = change victim (λ s ss. lowered c s ∷ (stolen seat c n s ∷ ss)) old.segments; next = old.next + 1 })
steal-at P es from top old seat victim c n None found may k = absurd (cc (may))
steal-at P es from top old seat victim c n (Some s) found may k =
    let cut = and-left (may_steal c (Some s)) ((n == old.next) && nat_lt n (2 ^ 64 - 1)) may in
    let same : n ≡ old.next = eqb-true n old.next (and-left (n == old.next) _ (and-right (may_steal c (Some s)) ((n == old.next) && nat_lt n (2 ^ 64 - 1)) may)) in
    let own = and-left (is_owned s.owner) _ cut in
    let ends = and-right (is_owned s.owner) (less s.mark (At c) && less (At c) s.upto) cut in
    subst (λ (m : ℕ). Holds P es from top (record old { segments = change victim (λ t ss. lowered c t ∷ (stolen seat c m t ∷ ss)) old.segments; next = old.next + 1 })) (sym same)
    (kept-steal P es from top old.next old.past old.spent old.segments old.end seat victim c s found own (and-left (less s.mark (At c)) _ ends) (and-right (less s.mark (At c)) (less (At c) s.upto) ends) k)

report-at : {R : Type 0} (P : Type 0) (es : List (Entry R)) (from top : Bound) (old : State) (seat n : ℕ) (reach : Bound) (rows tried : ℕ) (spent : Bool) (o : Option Segment) → Ascends es
    → segment_of n old.segments ≡ o → may_report seat reach rows tried spent o ≡ true → (P → TellsFrom es o reach rows tried spent) → Holds P es from top old
    → Holds P es from top (record old {
      segments = change n (λ s ss. scanned reach rows tried spent s ∷ (if spent then [] else ss)) old.segments;
      end = if spent then reach else old.end;
      spent = spent || old.spent;
    })
report-at P es from top old seat n reach rows tried spent None asc found may honest k = absurd (cc (may))
report-at P es from top old seat n reach rows tried true (Some s) asc found may honest k =
    kept-report_spent P es from top old.next old.past old.spent old.segments old.end n reach rows tried s asc found (reaches seat s reach rows tried true may) (λ p. (honest p).tried_are) (λ p. (honest p).spent_is) k
report-at P es from top old seat n reach rows tried false (Some s) asc found may honest k =
    kept-report P es from top old.next old.past old.spent old.segments old.end n reach rows tried s asc found (reaches seat s reach rows tried false may) (λ p. (honest p).tried_are) (λ p. (honest p).spent_is) k

pub kept-step : {R : Type 0} (P : Type 0) (es : List (Entry R)) (from top : Bound) (old : State) (event : Event) (reply : Reply) (new : State) → Ascends es
    → (P → IsHonest es old event) → Step old event reply new → Holds P es from top old → Holds P es from top new
kept-step P es from top old (Take seat n) reply new asc honest step k =
    subst (λ (s : State). Holds P es from top s) (sym step.new_is) (take-at P es from top old seat n (segment_of n old.segments) refl step.fit k)
kept-step P es from top old (Steal seat victim c n) reply new asc honest step k =
    subst (λ (s : State). Holds P es from top s) (sym step.new_is) (steal-at P es from top old seat victim c n (segment_of victim old.segments) refl step.fit k)
kept-step P es from top old (Report seat n reach rows tried spent) reply new asc honest step k =
    subst (λ (s : State). Holds P es from top s) (sym step.new_is) (report-at P es from top old seat n reach rows tried spent (segment_of n old.segments) asc refl step.fit honest k)
kept-step P es from top old (GiveUp seat n) reply new asc honest step k =
    subst (λ (s : State). Holds P es from top s) (sym step.new_is) (give_up-at P es from top old seat n (segment_of n old.segments) refl step.fit k)
kept-step P es from top old (Drain rows) reply new asc honest step k =
    subst (λ (s : State). Holds P es from top s) (sym step.new_is) (kept-drain P es from top old.next old.past old.spent old.segments old.end asc k)
kept-step P es from top old (StopAt mark) reply new asc honest step k =
    subst (λ (s : State). Holds P es from top s) (sym step.new_is) (kept-stop P es from top old.next old.past old.spent old.segments old.end mark step.fit k)
kept-step P es from top old (Look seat) reply new asc honest step k = subst (λ (s : State). Holds P es from top s) (sym step.new_is) k

-- All steps

pub kept-runs : (from top : Bound) (old : State) (events : List Event) (new : State) → Runs old events new → Holds ⊥ no_entries from top old → Holds ⊥ no_entries from top new
kept-runs from top old [] new runs k = subst (λ (s : State). Holds ⊥ no_entries from top s) (sym runs) k
kept-runs from top old (event ∷ events) new runs k =
    kept-runs from top runs.1 events new runs.3 (kept-step ⊥ no_entries from top old event runs.0 runs.1 tt (λ p. absurd p) runs.2 k)

pub kept-honest : {R : Type 0} (es : List (Entry R)) (from top : Bound) (old : State) (events : List Event) (new : State) → Ascends es → HonestRuns es old events new
    → Holds (Unit {0}) es from top old → Holds (Unit {0}) es from top new
kept-honest es from top old [] new asc runs k = subst (λ (s : State). Holds (Unit {0}) es from top s) (sym runs) k
kept-honest es from top old (event ∷ events) new asc runs k =
    kept-honest es from top runs.1 events new asc runs.4 (kept-step (Unit {0}) es from top old event runs.0 runs.1 asc (λ _. runs.2) runs.3 k)
