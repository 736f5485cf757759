-- What every run keeps, and what it has counted.
use Rattle.std.proofs.Common.{◌≡◌, ◌≢◌, ℕ, ◌<◌, List, [], ◌∷◌, ◌++◌, Bool, true, false, length, length-append, refl, sym, ap, ◌∙◌, subst, arith, cond, Option, Some, None}
use Rattle.std.specs.Prelude.{◌||◌, if◌then◌else◌}
use Rattle.std.specs.List.{sum_by, flat_map}
use Rattle.std.proofs.lemmas.List.{append-nil}
use Rattle.std.proofs.lemmas.List.Sums.{sum_by-cons}
use Rattle.kr_base.specs.declared.span.Bound.{Bound}
use Rattle.kr_base.specs.declared.span.Bound.TheVariants.{At}
use Rattle.kr_base.specs.declared.span.Span.{Span}
use Rattle.kr_base.specs.declared.entry.Entry.{Entry}
use Rattle.kr_base.specs.Bounds.{less}
use Rattle.kr_base.specs.Entries.{Ascends, within, through_spent, entries_in}
use Rattle.kr_base.proofs.Bounds.{irreflexive, connected, not_above}
use Rattle.kr_core.specs.declared.segment.Segment.{Segment}
use Rattle.kr_core.specs.declared.event.Event.{Event}
use Rattle.kr_core.specs.declared.event.Event.TheVariants.{Take, Steal, Report, GiveUp, Drain, StopAt, Look}
use Rattle.kr_base.specs.Causes.{capped}
use Rattle.kr_core.specs.States.{State, has_remainder, is_owned, is_closed, Each}
use Rattle.kr_core.specs.Openings.{end_of}
use Rattle.kr_core.specs.Kept.{NumbersDiffer, Adjoin, beginning, IsLastClosed, IsKept, KeptLaw}
use Rattle.kr_core.specs.Counts.{IsSpentFlag, HonestRuns, counted, IsCounted, last_stop, AllClosed, IsListed, CountingLaw}
use Rattle.kr_core.proofs.Spent.{within-append, within-none, flag-append, through_ends, through_all}
use Rattle.kr_core.proofs.Chains.{IsLink, EndsAs, Chain}
use Rattle.kr_core.proofs.Steps.{chain-up}
use Rattle.kr_core.proofs.Runs.{no_entries, Holds, closed-mark, kept-runs, kept-honest}
use Rattle.kr_core.proofs.Begins.{kept-opening}

-- what is kept

each-link : {R : Type 0} (P : Type 0) (es : List (Entry R)) (next : ℕ) (flag : Bool) (Q : Segment → Type 0) → ((a : Bound) (s : Segment) → IsLink P es next a s → Q s)
    → (last : Option Segment) (a : Bound) (segs : List Segment) (e : Bound) → Chain P es next flag last a segs e → Each Q segs
each-link P es next flag Q q last a [] e h = tt
each-link P es next flag Q q last a (s ∷ ss) e h = (q a s h.1.0, each-link P es next flag Q q (Some s) s.upto ss e h.1.1.1)

numbers-differ : {R : Type 0} (P : Type 0) (es : List (Entry R)) (next : ℕ) (flag : Bool) (last : Option Segment) (a : Bound) (segs : List Segment) (e : Bound)
    → Chain P es next flag last a segs e → NumbersDiffer segs
numbers-differ P es next flag last a [] e h = tt
numbers-differ P es next flag last a (s ∷ ss) e h = (h.1.1.0, numbers-differ P es next flag (Some s) s.upto ss e h.1.1.1)

adjoin : {R : Type 0} (P : Type 0) (es : List (Entry R)) (next : ℕ) (flag : Bool) (last : Option Segment) (a : Bound) (segs : List Segment) (e : Bound)
    → Chain P es next flag last a segs e → Adjoin a segs e
adjoin P es next flag last a [] e h = h.0
adjoin P es next flag last a (s ∷ ss) e h = (h.1.0.adjoins, adjoin P es next flag (Some s) s.upto ss e h.1.1.1)

last-closed : {R : Type 0} (P : Type 0) (es : List (Entry R)) (next : ℕ) (last : Option Segment) (a : Bound) (s : Segment) (ss : List Segment) (e : Bound)
    → Chain P es next true last a (s ∷ ss) e → IsLastClosed (s ∷ ss)
last-closed P es next last a s [] e h = h.1.1.1.1.0
last-closed P es next last a s (t ∷ ss) e h = last-closed P es next (Some s) s.upto t ss e h.1.1.1

some-closed : {R : Type 0} (P : Type 0) (es : List (Entry R)) (next : ℕ) (a : Bound) (segs : List Segment) (e : Bound)
    → Chain P es next true None a segs e → IsLastClosed segs
some-closed P es next a [] e h = absurd (h.1)
some-closed P es next a (s ∷ ss) e h = last-closed P es next None a s ss e h

some-segment : {R : Type 0} (P : Type 0) (es : List (Entry R)) (next : ℕ) (flag : Bool) (a : Bound) (segs : List Segment) (e : Bound)
    → Chain P es next flag None a segs e → segs ≢ []
some-segment P es next flag a [] e h q = absurd (h.1)
some-segment P es next flag a (s ∷ ss) e h q = absurd (cc (q))

pub kept : {R : Type 0} (P : Type 0) (es : List (Entry R)) (from top : Bound) (s : State) → Holds P es from top s → IsKept s
kept P es from top s k =
    let a = beginning s in
    record {
      some = some-segment P es s.next s.spent a s.segments s.end k.chain;
      differ = numbers-differ P es s.next s.spent None a s.segments s.end k.chain;
      numbered = each-link P es s.next s.spent (λ g. g.number < s.next) (λ b g l. l.numbered) None a s.segments s.end k.chain;
      adjoin = adjoin P es s.next s.spent None a s.segments s.end k.chain;
      after_to_mark = each-link P es s.next s.spent (λ g. less g.mark g.after ≡ false) (λ b g l. l.low) None a s.segments s.end k.chain;
      mark_to_upto = each-link P es s.next s.spent (λ g. less g.upto g.mark ≡ false) (λ b g l. l.high) None a s.segments s.end k.chain;
      owned_remains = each-link P es s.next s.spent (λ g. is_owned g.owner ≡ true → has_remainder g ≡ true) (λ b g l. l.remains) None a s.segments s.end k.chain;
      spent_closed = λ q. some-closed P es s.next a s.segments s.end (subst (λ (b : Bool). Chain P es s.next b None a s.segments s.end) q k.chain);
    }

pub kept_law : KeptLaw
kept_law span cuts events new inside runs =
    kept ⊥ no_entries (At span.after) (end_of span) new (kept-runs (At span.after) (end_of span) _ events new runs (kept-opening ⊥ no_entries span cuts inside))

-- what is counted

abbrev up_to_mark : {R : Type 0} → List (Entry R) → Segment → List (Entry R)
up_to_mark es g = within g.after g.mark es

flag-of : {R : Type 0} (P : Type 0) (es : List (Entry R)) (flag : Bool) (s : Segment) → P → EndsAs P es flag s → IsSpentFlag flag s.upto (up_to_mark es s)
flag-of P es true s p h = h.1 p
flag-of P es false s p h = h p

chain-counted : {R : Type 0} (P : Type 0) (es : List (Entry R)) (next : ℕ) (flag : Bool) (last : Option Segment) (a : Bound) (s : Segment) (ss : List Segment) (e : Bound) → P
    → Chain P es next flag last a (s ∷ ss) e → IsSpentFlag flag e (flat_map (up_to_mark es) (s ∷ ss))
chain-counted {R} P es next flag last a s [] e p h =
    let here : IsSpentFlag flag e (up_to_mark es s) = subst (λ (b : Bound). IsSpentFlag flag b (up_to_mark es s)) h.1.1.1.0 (flag-of P es flag s p h.1.1.1.1) in
    subst (λ (xs : List (Entry R)). IsSpentFlag flag e xs) (sym (append-nil (up_to_mark es s))) here
chain-counted P es next flag last a s (t ∷ ss) e p h =
    flag-append flag e (up_to_mark es s) (flat_map (up_to_mark es) (t ∷ ss)) (h.1.1.1.0 p) (chain-counted P es next flag (Some s) s.upto t ss e p h.1.1.1)

some-counted : {R : Type 0} (P : Type 0) (es : List (Entry R)) (next : ℕ) (flag : Bool) (a : Bound) (segs : List Segment) (e : Bound) → P
    → Chain P es next flag None a segs e → IsSpentFlag flag e (flat_map (up_to_mark es) segs)
some-counted P es next flag a [] e p h = absurd (h.1)
some-counted P es next flag a (s ∷ ss) e p h = chain-counted P es next flag None a s ss e p h

is-counted : {R : Type 0} (P : Type 0) (es : List (Entry R)) (from top : Bound) (s : State) → P → Holds P es from top s → IsCounted es from s
is-counted P es from top s p k =
    let a = beginning s in
    record {
      tried = each-link P es s.next s.spent (λ g. g.tried ≡ capped (length (within g.after g.mark es))) (λ b g l. l.tried p) None a s.segments s.end k.chain;
      past = k.past p;
      spent = flag-append s.spent s.end (within from a es) (flat_map (up_to_mark es) s.segments) (k.past_free p) (some-counted P es s.next s.spent a s.segments s.end p k.chain);
    }

-- what is counted in all segments
tried-sum : {R : Type 0} (P : Type 0) (es : List (Entry R)) (next : ℕ) (flag : Bool) (last : Option Segment) (a : Bound) (segs : List Segment) (e : Bound) → P
    → Chain P es next flag last a segs e → capped (sum_by (λ g. g.tried) segs) ≡ capped (length (flat_map (up_to_mark es) segs))
tried-sum P es next flag last a [] e p h = refl
tried-sum P es next flag last a (s ∷ ss) e p h =
    omega (arith, sum_by-cons (λ g. g.tried) s ss, length-append (up_to_mark es s) (flat_map (up_to_mark es) ss), h.1.0.tried p, tried-sum P es next flag (Some s) s.upto ss e p h.1.1.1)

-- closed segments count all that is in them
closed-all : {R : Type 0} (P : Type 0) (es : List (Entry R)) (next : ℕ) (flag : Bool) (last : Option Segment) (a : Bound) (segs : List Segment) (e : Bound) → Ascends es
    → Chain P es next flag last a segs e → Each (λ g. is_closed g ≡ true) segs → flat_map (up_to_mark es) segs ≡ within a e es
closed-all {R} P es next flag last a [] e asc h c =
    sym (within-none a e es (subst (λ (b : Bound). less a b ≡ false) h.0 (irreflexive a)))
closed-all {R} P es next flag last a (s ∷ ss) e asc h c =
    let l = h.1.0 in
    let at : s.mark ≡ s.upto = closed-mark P es next a s l c.0 in
    let up : less e s.mark ≡ false = subst (λ (b : Bound). less e b ≡ false) (sym at) (chain-up P es next flag (Some s) s.upto ss e h.1.1.1) in
    let rest : flat_map (up_to_mark es) ss ≡ within s.mark e es =
    closed-all P es next flag (Some s) s.upto ss e asc h.1.1.1 c.1 ∙ ap (λ (b : Bound). within b e es) (sym at) in
    ap (λ (xs : List (Entry R)). up_to_mark es s ++ xs) rest ∙ (within-append s.after s.mark e es asc l.low up ∙ ap (λ (b : Bound). within b e es) l.adjoins)

-- the end is where it began, or where the last stop put it, as long as nothing is spent
report-end : (spent flag : Bool) (reach e b : Bound) → (flag ≡ false → e ≡ b) → (spent || flag) ≡ false → (if spent then reach else e) ≡ b
report-end true flag reach e b h q = absurd (cc (q))
report-end false flag reach e b h q = h q

end-runs : {R : Type 0} (es : List (Entry R)) (b : Bound) (old : State) (events : List Event) (new : State) → HonestRuns es old events new
    → (old.spent ≡ false → old.end ≡ b) → new.spent ≡ false → new.end ≡ last_stop b events
end-runs es b old [] new runs h q = ap (λ (s : State). s.end) runs ∙ h (ap (λ (s : State). s.spent) (sym runs) ∙ q)
end-runs es b old (Take seat n ∷ events) new runs h q =
    end-runs es b runs.1 events new runs.4 (λ f. ap (λ (s : State). s.end) runs.3.new_is ∙ h (ap (λ (s : State). s.spent) (sym runs.3.new_is) ∙ f)) q
end-runs es b old (Steal seat victim cut n ∷ events) new runs h q =
    end-runs es b runs.1 events new runs.4 (λ f. ap (λ (s : State). s.end) runs.3.new_is ∙ h (ap (λ (s : State). s.spent) (sym runs.3.new_is) ∙ f)) q
end-runs es b old (Report seat n reach rows tried spent ∷ events) new runs h q =
    end-runs es b runs.1 events new runs.4
    (λ f. ap (λ (s : State). s.end) runs.3.new_is ∙ report-end spent old.spent reach old.end b h (ap (λ (s : State). s.spent) (sym runs.3.new_is) ∙ f)) q
end-runs es b old (GiveUp seat n ∷ events) new runs h q =
    end-runs es b runs.1 events new runs.4 (λ f. ap (λ (s : State). s.end) runs.3.new_is ∙ h (ap (λ (s : State). s.spent) (sym runs.3.new_is) ∙ f)) q
end-runs es b old (Drain rows ∷ events) new runs h q =
    end-runs es b runs.1 events new runs.4 (λ f. ap (λ (s : State). s.end) runs.3.new_is ∙ h (ap (λ (s : State). s.spent) (sym runs.3.new_is) ∙ f)) q
end-runs es b old (StopAt mark ∷ events) new runs h q = end-runs es (At mark) runs.1 events new runs.4 (λ f. ap (λ (s : State). s.end) runs.3.new_is) q
end-runs es b old (Look seat ∷ events) new runs h q =
    end-runs es b runs.1 events new runs.4 (λ f. ap (λ (s : State). s.end) runs.3.new_is ∙ h (ap (λ (s : State). s.spent) (sym runs.3.new_is) ∙ f)) q

-- the entries up to the end are all of the span
whole-spent : {R : Type 0} (es : List (Entry R)) (from upto e : Bound) (flag : Bool) → Ascends es → less e from ≡ false → less upto e ≡ false → IsSpentFlag flag e (within from e es)
    → (flag ≡ false → e ≡ upto) → entries_in from e es ≡ entries_in from upto es
whole-spent {R} es from upto e true asc up below spent at =
    through_all true e (within from e es) spent
    ∙ sym (ap through_spent (sym (within-append from e upto es asc up below)) ∙ through_ends e (within from e es) (within e upto es) spent)
whole-spent es from upto e false asc up below spent at = ap (λ (b : Bound). entries_in from b es) (at refl)

whole-at : {R : Type 0} (es : List (Entry R)) (from upto e : Bound) (flag t : Bool) (events : List Event) → Ascends es → less from upto ≡ t → less e from ≡ false → less (cond t upto from) e ≡ false
    → IsSpentFlag flag e (within from e es) → (flag ≡ false → e ≡ last_stop (cond t upto from) events) → less (last_stop upto events) upto ≡ false
    → entries_in from e es ≡ entries_in from upto es
whole-at es from upto e flag true events asc is up below spent at stop =
    whole-spent es from upto e flag asc up below spent (λ f. connected e upto (ap (λ (b : Bound). less b upto) (at f) ∙ stop) below)
whole-at {R} es from upto e flag false events asc is up below spent at stop =
    ap through_spent (within-none from e es below ∙ sym (within-none from upto es is))

is-listed : {R : Type 0} (P : Type 0) (es : List (Entry R)) (span : Span) (events : List Event) (s : State) → P → Ascends es → Holds P es (At span.after) (end_of span) s
    → (s.spent ≡ false → s.end ≡ last_stop (end_of span) events) → AllClosed s → IsListed es span events s
is-listed {R} P es span events s p asc k at closed =
    let from : Bound = At span.after in
    let a = beginning s in
    let up : less s.end a ≡ false = chain-up P es s.next s.spent None a s.segments s.end k.chain in
    let all : counted es from s ≡ within from s.end es =
    ap (λ (xs : List (Entry R)). within from a es ++ xs) (closed-all P es s.next s.spent None a s.segments s.end asc k.chain closed) ∙ within-append from a s.end es asc k.above up in
    let spent : IsSpentFlag s.spent s.end (within from s.end es) = subst (λ (xs : List (Entry R)). IsSpentFlag s.spent s.end xs) all (is-counted P es from (end_of span) s p k).spent in
    let here : entries_in from s.end es ≡ within from s.end es = through_all s.spent s.end (within from s.end es) spent in
    let count : length (counted es from s) ≡ length (entries_in from s.end es) = ap (λ (xs : List (Entry R)). length xs) (all ∙ sym here) in
    record {
      tried = omega (arith, count, k.past p, length-append (within from a es) (flat_map (up_to_mark es) s.segments), tried-sum P es s.next s.spent None a s.segments s.end p k.chain);
      entries = all ∙ sym here;
      spent = subst (λ (xs : List (Entry R)). IsSpentFlag s.spent s.end xs) (sym here) spent;
      whole = λ stop. whole-at es from span.upto s.end s.spent (less from span.upto) events asc refl (not_above from a s.end k.above up) k.below spent at stop;
    }

-- no segment begins below where the first one may
each-above : {R : Type 0} (P : Type 0) (es : List (Entry R)) (next : ℕ) (flag : Bool) (from : Bound) (last : Option Segment) (a : Bound) (segs : List Segment) (e : Bound) → less a from ≡ false
    → Chain P es next flag last a segs e → Each (λ g. less g.after from ≡ false) segs
each-above P es next flag from last a [] e up h = tt
each-above P es next flag from last a (s ∷ ss) e up h =
    let l = h.1.0 in
    let here : less s.after from ≡ false = subst (λ (b : Bound). less b from ≡ false) (sym l.adjoins) up in
    (here, each-above P es next flag from (Some s) s.upto ss e (not_above from s.mark s.upto (not_above from s.after s.mark here l.low) l.high) h.1.1.1)

pub counting_law : {R : Type 0} → CountingLaw R
counting_law {R} es span cuts events new asc inside runs =
    let k = kept-honest es (At span.after) (end_of span) _ events new asc runs (kept-opening (Unit {0}) es span cuts inside) in
    record {
      begins = each-above (Unit {0}) es new.next new.spent (At span.after) None (beginning new) new.segments new.end k.above k.chain;
      ends = k.below;
      counted = is-counted (Unit {0}) es (At span.after) (end_of span) new tt k;
      listed = λ closed. is-listed (Unit {0}) es span events new tt asc k (end-runs es (end_of span) _ events new runs (λ q. refl)) closed;
    }
