-- The rows of segments and the drained ones, by what is kept beside the segments: their numbers.
use Rattle.std.proofs.Common.{◌≡◌, ℕ, ◌+◌, List, [], ◌∷◌, ◌++◌, Bool, true, false, ◌==◌, cond, refl, sym, ap, ◌∙◌, subst, arith, Option, Some, None}
use Rattle.std.specs.Prelude.{if◌then◌else◌, map}
use Rattle.std.specs.List.{sum_by, flat_map}
use Rattle.std.proofs.lemmas.List.Sums.{sum_by-cons, sum_by-append}
use Rattle.std.proofs.lemmas.Bool.{eqb-true}
use Rattle.kr_base.specs.declared.span.Bound.{Bound}
use Rattle.kr_base.specs.declared.span.Bound.TheVariants.{At}
use Rattle.kr_base.specs.declared.entry.Entry.{Entry}
use Rattle.kr_base.specs.Bounds.{less}
use Rattle.kr_base.specs.Entries.{Ascends, is_valid, within}
use Rattle.kr_base.proofs.Bounds.{irreflexive}
use Rattle.kr_core.specs.declared.segment.Segment.{Segment}
use Rattle.kr_core.specs.declared.event.Event.{Event}
use Rattle.kr_core.specs.declared.event.Event.TheVariants.{Take, Steal, Report, GiveUp, Drain, StopAt, Look}
use Rattle.kr_core.specs.declared.event.Reply.{Reply}
use Rattle.kr_base.specs.Causes.{capped}
use Rattle.kr_core.specs.States.{State, is_closed, segment_of, change, Each}
use Rattle.kr_core.specs.Openings.{segments_at, end_of, opening}
use Rattle.kr_core.specs.Steps.{Step, fits, after, owned, lowered, stolen, scanned, front, left, stopped}
use Rattle.kr_core.specs.Kept.{first_after}
use Rattle.kr_core.specs.Counts.{TellsFrom, IsHonest, HonestRuns}
use Rattle.kr_core.specs.Beside.{grown, parted, fronts, emptied, first_alone, beside, gathered, Others, Measures}
use Rattle.kr_core.specs.Rows.{brought, valid_in, drains, drained, HasOwnRows, HaveRows, RowsLaw}
use Rattle.kr_core.proofs.Spent.{within-append, within-none}
use Rattle.kr_core.proofs.Chains.{Chain}
use Rattle.kr_core.proofs.Runs.{Holds, kept-step}
use Rattle.kr_core.proofs.Begins.{kept-opening}
use Rattle.kr_core.proofs.Beside.{IsMeasure, IsMore, Brings, taken_out, measures-step}

abbrev pub plus : ℕ → ℕ → ℕ
plus x y = capped (x + y)

abbrev valid : {R : Type 0} → List (Entry R) → ℕ
valid es = capped (valid_in es)

valid-append : {R : Type 0} (xs ys : List (Entry R)) → valid_in (xs ++ ys) ≡ valid_in xs + valid_in ys
valid-append {R} xs ys = sum_by-append (λ (e : Entry R). cond (is_valid e.mark) 1 0) xs ys

measure : {R : Type 0} → IsMeasure {R = R} plus 0 valid
measure {R} = record {
  nil = refl;
  joins = λ xs ys. let v = valid-append xs ys in omega (arith, v);
  assoc = λ x y z. omega arith;
  rest = λ x y. omega arith;
}

abbrev pub rows_in : List Segment → List ℕ
rows_in segs = map (λ g. g.rows) segs

-- the counts move as what is beside the segments

rows-owned : (owner : Option ℕ) (n : ℕ) (segs : List Segment) → rows_in (change n (λ s ss. owned owner s ∷ ss) segs) ≡ rows_in segs
rows-owned owner n [] = refl
rows-owned owner n (s ∷ ss) =
    elim (s.number == n) as (λ b. rows_in (cond b (owned owner s ∷ ss) (s ∷ change n (λ t ts. owned owner t ∷ ts) ss)) ≡ s.rows ∷ rows_in ss) [
      | true ↦ refl
      | false ↦ ap (λ (xs : List ℕ). s.rows ∷ xs) (rows-owned owner n ss)
    ]

rows-end : (spent : Bool) (ss : List Segment) → rows_in (if spent then [] else ss) ≡ (if spent then [] else rows_in ss)
rows-end true ss = refl
rows-end false ss = refl

rows-grown : (n : ℕ) (reach : Bound) (rows tried : ℕ) (spent : Bool) (segs : List Segment)
    → rows_in (change n (λ s ss. scanned reach rows tried spent s ∷ (if spent then [] else ss)) segs) ≡ grown plus n rows spent segs (rows_in segs)
rows-grown n reach rows tried spent [] = refl
rows-grown n reach rows tried spent (s ∷ ss) =
    elim (s.number == n) as (λ b. rows_in (cond b (scanned reach rows tried spent s ∷ (if spent then [] else ss)) (s ∷ change n (λ t ts. scanned reach rows tried spent t ∷ (if spent then [] else ts)) ss))
    ≡ cond b (plus s.rows rows ∷ (if spent then [] else rows_in ss)) (s.rows ∷ grown plus n rows spent ss (rows_in ss))) [
      | true ↦ ap (λ (xs : List ℕ). plus s.rows rows ∷ xs) (rows-end spent ss)
      | false ↦ ap (λ (xs : List ℕ). s.rows ∷ xs) (rows-grown n reach rows tried spent ss)
    ]

rows-parted : (seat victim : ℕ) (c : List ℕ) (n : ℕ) (segs : List Segment) → rows_in (change victim (λ s ss. lowered c s ∷ (stolen seat c n s ∷ ss)) segs) ≡ parted 0 victim segs (rows_in segs)
rows-parted seat victim c n [] = refl
rows-parted seat victim c n (s ∷ ss) =
    elim (s.number == victim) as (λ b. rows_in (cond b (lowered c s ∷ (stolen seat c n s ∷ ss)) (s ∷ change victim (λ t ts. lowered c t ∷ (stolen seat c n t ∷ ts)) ss)) ≡ cond b (s.rows ∷ (0 ∷ rows_in ss)) (s.rows ∷ parted 0 victim ss (rows_in ss))) [
      | true ↦ refl
      | false ↦ ap (λ (xs : List ℕ). s.rows ∷ xs) (rows-parted seat victim c n ss)
    ]

rows-left : (segs : List Segment) → rows_in (left segs) ≡ emptied 0 segs (rows_in segs)
rows-left [] = refl
rows-left (s ∷ []) = refl
rows-left (s ∷ t ∷ ss) =
    elim (is_closed s) as (λ b. rows_in (cond b (left (t ∷ ss)) (record s { rows = 0 } ∷ (t ∷ ss))) ≡ cond b (emptied 0 (t ∷ ss) (rows_in (t ∷ ss))) (0 ∷ rows_in (t ∷ ss))) [ true ↦ rows-left (t ∷ ss) | false ↦ refl ]

rows-stopped : (c : List ℕ) (segs : List Segment) → rows_in (stopped c segs) ≡ first_alone (rows_in segs)
rows-stopped c [] = refl
rows-stopped c (s ∷ ss) = refl

pub rows-beside : (old : State) (event : Event) → rows_in (after old event).segments ≡ beside plus 0 old event (brought event) (rows_in old.segments)
rows-beside old (Take seat n) = rows-owned (Some seat) n old.segments
rows-beside old (Steal seat victim c n) = rows-parted seat victim c n old.segments
rows-beside old (Report seat n reach rows tried spent) = rows-grown n reach rows tried spent old.segments
rows-beside old (GiveUp seat n) = rows-owned None n old.segments
rows-beside old (Drain rows) = rows-left old.segments
rows-beside old (StopAt c) = rows-stopped c old.segments
rows-beside old (Look seat) = refl

-- an honest report brings the rows of the entries up to its reach
more-told : {R : Type 0} (es : List (Entry R)) (o : Option Segment) (reach : Bound) (rows tried : ℕ) (spent : Bool) → TellsFrom es o reach rows tried spent → IsMore valid es o reach rows
more-told es None reach rows tried spent h = tt
more-told es (Some s) reach rows tried spent h = h.rows_are

brings : {R : Type 0} (es : List (Entry R)) (old : State) (event : Event) → IsHonest es old event → Brings valid es old event (brought event)
brings es old (Take seat n) h = tt
brings es old (Steal seat victim c n) h = tt
brings es old (Report seat n reach rows tried spent) h = more-told es (segment_of n old.segments) reach rows tried spent h
brings es old (GiveUp seat n) h = tt
brings es old (Drain rows) h = tt
brings es old (StopAt c) h = tt
brings es old (Look seat) h = tt

-- the rows of the front
pub front-rows : (segs : List Segment) → gathered plus 0 (fronts segs (rows_in segs)) ≡ capped (sum_by (λ g. g.rows) (front segs))
front-rows [] = refl
front-rows (s ∷ ss) =
    elim (is_closed s) as (λ b. plus s.rows (gathered plus 0 (if b then fronts ss (rows_in ss) else [])) ≡ capped (sum_by (λ g. g.rows) (s ∷ (if b then front ss else [])))) [
      | true ↦ let rest = front-rows ss in let sum = sum_by-cons (λ (g : Segment). g.rows) s (front ss) in omega (arith, rest, sum)
      | false ↦ let sum = sum_by-cons (λ (g : Segment). g.rows) s [] in omega (arith, sum)
    ]

-- another number for what was taken out, where the sums are the same
measures-front : {R : Type 0} (es : List (Entry R)) (from : Bound) (d e : ℕ) (segs : List Segment) (xs : List ℕ) → ((y : ℕ) → plus e y ≡ plus d y)
    → Measures plus valid es from d segs xs → Measures plus valid es from e segs xs
measures-front es from d e [] xs same h = h
measures-front es from d e (s ∷ ss) [] same h = h
measures-front es from d e (s ∷ ss) (x ∷ xs) same h = (same x ∙ h.0, h.1)

out-same : (old : State) (event : Event) (d : ℕ) → fits old event ≡ true → (y : ℕ) → plus (d + drains event) y ≡ plus (taken_out plus 0 old event (rows_in old.segments) d) y
out-same old (Take seat n) d fit y = omega arith
out-same old (Steal seat victim c n) d fit y = omega arith
out-same old (Report seat n reach rows tried spent) d fit y = omega arith
out-same old (GiveUp seat n) d fit y = omega arith
out-same old (Drain rows) d fit y =
    let is : rows ≡ capped (sum_by (λ g. g.rows) (front old.segments)) = eqb-true rows _ fit in
    let sum = front-rows old.segments in
    omega (arith, is, sum)
out-same old (StopAt c) d fit y = omega arith
out-same old (Look seat) d fit y = omega arith

rows-step : {R : Type 0} (es : List (Entry R)) (from top : Bound) (old : State) (event : Event) (reply : Reply) (new : State) (d : ℕ) → Ascends es → Holds (Unit {0}) es from top old
    → IsHonest es old event → Step old event reply new → Measures plus valid es from d old.segments (rows_in old.segments) → Measures plus valid es from (d + drains event) new.segments (rows_in new.segments)
rows-step {R} es from top old event reply new d asc k honest step m =
    let moved = measures-step plus 0 valid measure (Unit {0}) es from top old event reply new (brought event) d (rows_in old.segments) asc k (brings es old event honest) step m in
    let is : beside plus 0 old event (brought event) (rows_in old.segments) ≡ rows_in new.segments = sym (ap (λ (s : State). rows_in s.segments) step.new_is ∙ rows-beside old event) in
    measures-front es from _ (d + drains event) new.segments (rows_in new.segments) (out-same old event d step.fit)
    (subst (λ (xs : List ℕ). Measures plus valid es from (taken_out plus 0 old event (rows_in old.segments) d) new.segments xs) is moved)

rows-runs : {R : Type 0} (es : List (Entry R)) (from top : Bound) (old : State) (events : List Event) (new : State) (d : ℕ) → Ascends es → Holds (Unit {0}) es from top old → HonestRuns es old events new
    → Measures plus valid es from d old.segments (rows_in old.segments) → Measures plus valid es from (d + drained events) new.segments (rows_in new.segments)
rows-runs es from top old [] new d asc k runs m =
    let zero : d ≡ d + 0 = omega arith in
    subst (λ (s : State). Measures plus valid es from (d + 0) s.segments (rows_in s.segments)) (sym runs) (subst (λ (n : ℕ). Measures plus valid es from n old.segments (rows_in old.segments)) zero m)
rows-runs es from top old (event ∷ events) new d asc k runs m =
    let kept = kept-step (Unit {0}) es from top old event runs.0 runs.1 asc (λ _. runs.2) runs.3 k in
    let here = rows-step es from top old event runs.0 runs.1 d asc k runs.2 runs.3 m in
    let sum : (d + drains event) + drained events ≡ d + (drains event + drained events) = omega arith in
    subst (λ (n : ℕ). Measures plus valid es from n new.segments (rows_in new.segments)) sum (rows-runs es from top runs.1 events new (d + drains event) asc kept runs.4 here)

-- in the opening state there are none

none-valid : {R : Type 0} (es : List (Entry R)) (a : Bound) → 0 ≡ valid (within a a es)
none-valid {R} es a = sym (ap (λ (xs : List (Entry R)). valid xs) (within-none a a es (irreflexive a)))

others-open : {R : Type 0} (es : List (Entry R)) (k : ℕ) (a e : Bound) (cuts : List (List ℕ)) → Others valid es (segments_at k a cuts e) (rows_in (segments_at k a cuts e))
others-open es k a e [] = (none-valid es a, tt)
others-open es k a e (c ∷ cs) = (none-valid es a, others-open es (k + 1) (At c) e cs)

measures-open : {R : Type 0} (es : List (Entry R)) (k : ℕ) (a e : Bound) (cuts : List (List ℕ)) → Measures plus valid es a 0 (segments_at k a cuts e) (rows_in (segments_at k a cuts e))
measures-open es k a e [] = (none-valid es a, tt)
measures-open es k a e (c ∷ cs) = (none-valid es a, others-open es (k + 1) (At c) e cs)

-- the law

each-own : {R : Type 0} (es : List (Entry R)) (segs : List Segment) → Others valid es segs (rows_in segs) → Each (HasOwnRows es) segs
each-own es [] h = tt
each-own es (s ∷ ss) h = (h.0, each-own es ss h.1)

have-rows : {R : Type 0} (es : List (Entry R)) (from : Bound) (d : ℕ) (segs : List Segment) → Measures plus valid es from d segs (rows_in segs) → HaveRows es from d segs
have-rows es from d [] h = h
have-rows es from d (s ∷ ss) h = (h.0, each-own es ss h.1)

abbrev up_to_mark : {R : Type 0} → List (Entry R) → Segment → List (Entry R)
up_to_mark es g = within g.after g.mark es

others-sum : {R : Type 0} (es : List (Entry R)) (segs : List Segment) → Each (HasOwnRows es) segs → capped (sum_by (λ g. g.rows) segs) ≡ capped (valid_in (flat_map (up_to_mark es) segs))
others-sum es [] h = refl
others-sum es (s ∷ ss) h =
    let rest = others-sum es ss h.1 in
    let sum = sum_by-cons (λ (g : Segment). g.rows) s ss in
    let both = valid-append (up_to_mark es s) (flat_map (up_to_mark es) ss) in
    let here = h.0 in
    omega (arith, rest, sum, both, here)

total : {R : Type 0} (P : Type 0) (es : List (Entry R)) (next : ℕ) (flag : Bool) (from : Bound) (d : ℕ) (segs : List Segment) (e : Bound) → Ascends es → less (first_after e segs) from ≡ false
    → Chain P es next flag None (first_after e segs) segs e → HaveRows es from d segs
    → capped (d + sum_by (λ g. g.rows) segs) ≡ capped (valid_in (within from (first_after e segs) es ++ flat_map (up_to_mark es) segs))
total P es next flag from d [] e asc up h r = absurd r
total {R} P es next flag from d (s ∷ ss) e asc up h r =
    let rest = others-sum es ss r.1 in
    let sum = sum_by-cons (λ (g : Segment). g.rows) s ss in
    let outer = valid-append (within from s.after es) (flat_map (up_to_mark es) (s ∷ ss)) in
    let inner = valid-append (up_to_mark es s) (flat_map (up_to_mark es) ss) in
    let two = valid-append (within from s.after es) (up_to_mark es s) in
    let one : valid_in (within from s.after es ++ up_to_mark es s) ≡ valid_in (within from s.mark es) = ap (λ (xs : List (Entry R)). valid_in xs) (within-append from s.after s.mark es asc up h.1.0.low) in
    let here = r.0 in
    omega (arith, rest, sum, outer, inner, two, one, here)

kept-runs : {R : Type 0} (es : List (Entry R)) (from top : Bound) (old : State) (events : List Event) (new : State) → Ascends es → HonestRuns es old events new
    → Holds (Unit {0}) es from top old → Holds (Unit {0}) es from top new
kept-runs es from top old [] new asc runs k = subst (λ (s : State). Holds (Unit {0}) es from top s) (sym runs) k
kept-runs es from top old (event ∷ events) new asc runs k =
    kept-runs es from top runs.1 events new asc runs.4 (kept-step (Unit {0}) es from top old event runs.0 runs.1 asc (λ _. runs.2) runs.3 k)

pub rows_law : {R : Type 0} → RowsLaw R
rows_law {R} es span cuts events new asc inside runs =
    let from : Bound = At span.after in
    let opens = kept-opening (Unit {0}) es span cuts inside in
    let k = kept-runs es from (end_of span) (opening span cuts) events new asc runs opens in
    let m = rows-runs es from (end_of span) (opening span cuts) events new 0 asc opens runs (measures-open es 0 from (end_of span) cuts) in
    let zero : 0 + drained events ≡ drained events = omega arith in
    let have : HaveRows es from (drained events) new.segments = have-rows es from (drained events) new.segments (subst (λ (n : ℕ). Measures plus valid es from n new.segments (rows_in new.segments)) zero m) in
    record {
      each = have;
      all = total (Unit {0}) es new.next new.spent from (drained events) new.segments new.end asc k.above k.chain have;
    }
