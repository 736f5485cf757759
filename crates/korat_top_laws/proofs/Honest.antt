-- An honest log is accepted beside the rows that were written.
use Rattle.std.proofs.Common.{◌≡◌, ℕ, ◌+◌, ◌-◌, ◌^◌, ◌<◌, ◌≤◌, List, [], ◌∷◌, Bool, true, false, length, refl, sym, ap, ◌∙◌, subst, arith, min, nat_le}
use Rattle.std.specs.Prelude.{Option, Some, None, ◌==◌, filter, if◌then◌else◌}
use Rattle.std.specs.List.{count_by}
use Rattle.std.proofs.lemmas.Bool.{eq-eqb}
use Rattle.std.proofs.lemmas.Bool.Decides.{nat_tests}
use Rattle.kr_base.specs.declared.span.Bound.{Bound}
use Rattle.kr_base.specs.declared.span.Bound.TheVariants.{At}
use Rattle.kr_base.specs.declared.span.Span.{Span}
use Rattle.kr_base.specs.declared.entry.Entry.{Entry}
use Rattle.kr_base.specs.Bounds.{less}
use Rattle.kr_base.specs.Causes.{capped}
use Rattle.kr_base.specs.Entries.{Ascends, is_valid, is_within, within}
use Rattle.kr_base.proofs.Bounds.{irreflexive, not_above}
use Rattle.kr_core.specs.declared.event.Event.{Event}
use Rattle.kr_core.specs.declared.event.Event.TheVariants.{Take, Steal, Report, GiveUp, Drain, StopAt, Look}
use Rattle.kr_core.specs.declared.segment.Segment.{Segment}
use Rattle.kr_core.specs.States.{State, segment_of}
use Rattle.kr_core.specs.Steps.{after, fits, may_report}
use Rattle.kr_core.specs.Counts.{HonestRuns, IsHonest, TellsFrom}
use Rattle.kr_core.specs.Cutting.{cuts_for}
use Rattle.kr_core.specs.Openings.{end_of, opening}
use Rattle.kr_core.specs.Kept.{first_after}
use Rattle.kr_core.proofs.Begins.{kept-opening}
use Rattle.kr_core.proofs.Chains.{Chain}
use Rattle.kr_core.proofs.Cuts.{cuts_inside}
use Rattle.kr_core.proofs.Runs.{Holds, kept-step}
use Rattle.kr_core.proofs.Steps.{reaches}
use Rattle.kr_trace.specs.declared.ending.Last.{Last}
use Rattle.kr_trace.specs.Checked.{are_written, has_rows, horizon, is_written, rows_between}
use Rattle.korat_top_laws.specs.Printed.{Accepts}
use Rattle.korat_top_laws.specs.Honest.{AreShown, AreWritten, HonestLaw, valid_keys}
use Rattle.korat_top_laws.proofs.Counted.{rows_counted, rows_most}

-- ---- where a segment lies

-- its mark isn't below the first one's beginning, nor its end above the last one's
lies_within : {R : Type 0} (P : Type 0) (es : List (Entry R)) (next n : ℕ) (flag : Bool) (last : Option Segment) (a : Bound) (segs : List Segment) (e : Bound) (g : Segment)
    → Chain P es next flag last a segs e → segment_of n segs ≡ Some g → (less g.mark a ≡ false) × (less e g.upto ≡ false)
lies_within P es next n flag last a [] e g h found = absurd (cc (found))
lies_within P es next n flag last a (s ∷ ss) e g h found =
    let link = h.1.0 in
    let low : less s.mark a ≡ false = subst (λ (b : Bound). less s.mark b ≡ false) link.adjoins link.low in
    let on : less s.upto a ≡ false = not_above a s.mark s.upto low link.high in
    elim (s.number == n) as (λ b. (if b then Some s else segment_of n ss) ≡ Some g → (less g.mark a ≡ false) × (less e g.upto ≡ false)) [
      | true ↦ λ q. let same : s ≡ g = cc (q) in
          subst (λ (x : Segment). (less x.mark a ≡ false) × (less e x.upto ≡ false)) same (low, ends_after P es next flag (Some s) s.upto ss e h.1.1.1)
      | false ↦ λ q. let rest = lies_within P es next n flag (Some s) s.upto ss e g h.1.1.1 q in
          (not_above a s.upto g.mark on rest.0, rest.1)
    ] found
  where
    ends_after : {R : Type 0} (P : Type 0) (es : List (Entry R)) (next : ℕ) (flag : Bool) (last : Option Segment) (b : Bound) (segs : List Segment) (e : Bound) → Chain P es next flag last b segs e → less e b ≡ false
    ends_after P es next flag last b [] e h = subst (λ (x : Bound). less x b ≡ false) h.0 (irreflexive b)
    ends_after P es next flag last b (s ∷ ss) e h =
        let link = h.1.0 in
        let low : less s.mark b ≡ false = subst (λ (x : Bound). less s.mark x ≡ false) link.adjoins link.low in
        not_above b s.upto e (not_above b s.mark s.upto low link.high) (ends_after P es next flag (Some s) s.upto ss e h.1.1.1)

-- ---- a report

same_count : (written count rows : ℕ) → written ≡ count → written < 2 ^ 64 → rows ≡ capped count → (written == rows) ≡ true
same_count written count rows same few is =
    let equal : written ≡ rows = omega (arith, same, few, is) in
    eq-eqb written rows equal

no_fewer : (written count rows : ℕ) → written ≤ count → written < 2 ^ 64 → rows ≡ capped count → nat_le written rows ≡ true
no_fewer written count rows most few is =
    let order : written ≤ rows = omega (arith, most, few, is) in
    grind (arith, nat_tests)

few_between : (keys : List (List ℕ)) (mark reach : Bound) → length keys < 2 ^ 64 → rows_between keys mark reach < 2 ^ 64
few_between keys mark reach few = omega (arith, shorter keys, few)
  where
    shorter : (ks : List (List ℕ)) → rows_between ks mark reach ≤ length ks
    shorter [] = omega arith
    shorter (k ∷ ks) = elim (is_within mark reach k) as (λ t. length (if t then k ∷ filter (is_within mark reach) ks else filter (is_within mark reach) ks) ≤ length (k ∷ ks)) [
      | true ↦ omega (arith, shorter ks)
      | false ↦ omega (arith, shorter ks)
    ]

report_rows : {R : Type 0} (es : List (Entry R)) (span : Span) (last : Last) (keys : List (List ℕ)) (written : AreWritten es span last keys) (reach : Bound) (rows tried : ℕ) (spent : Bool) (g : Segment)
    → less g.mark (At span.after) ≡ false → less (end_of span) reach ≡ false → TellsFrom es (Some g) reach rows tried spent → is_written last keys reach rows g ≡ true
report_rows {R} es span last keys written reach rows tried spent g low high tells =
    let count = count_by (λ (e : Entry R). is_valid e.mark) (within g.mark reach es) in
    let few : rows_between keys g.mark reach < 2 ^ 64 = few_between keys g.mark reach written.few in
    elim (less (horizon last) reach) as (λ t. less (horizon last) reach ≡ t → (if t then nat_le (rows_between keys g.mark reach) rows else rows_between keys g.mark reach == rows) ≡ true) [
      | true ↦ λ p.
          let most : rows_between keys g.mark reach ≤ count =
          subst (λ (ks : List (List ℕ)). rows_between ks g.mark reach ≤ count) (sym written.keys_are) (rows_most es (At span.after) written.upto g.mark reach) in
          no_fewer (rows_between keys g.mark reach) count rows most few tells.rows_are
      | false ↦ λ p.
          let same : rows_between keys g.mark reach ≡ count =
          ap (λ (ks : List (List ℕ)). rows_between ks g.mark reach) written.keys_are ∙ rows_counted es (At span.after) written.upto g.mark reach low (written.lowest reach p high) in
          same_count (rows_between keys g.mark reach) count rows same few tells.rows_are
    ] refl

report_at : {R : Type 0} (es : List (Entry R)) (span : Span) (last : Last) (keys : List (List ℕ)) (written : AreWritten es span last keys) (s : State) (seat n : ℕ) (reach : Bound) (rows tried : ℕ) (spent : Bool) (o : Option Segment)
    → segment_of n s.segments ≡ o → may_report seat reach rows tried spent o ≡ true → TellsFrom es o reach rows tried spent → Holds (Unit {0}) es (At span.after) (end_of span) s
    → has_rows last keys s (Report seat n reach rows tried spent) ≡ true
report_at es span last keys written s seat n reach rows tried spent None found may tells holds = absurd tells
report_at es span last keys written s seat n reach rows tried spent (Some g) found may tells holds =
    let lies = lies_within (Unit {0}) es s.next n s.spent None (first_after s.end s.segments) s.segments s.end g holds.chain found in
    let meets = reaches seat g reach rows tried spent may in
    let low : less g.mark (At span.after) ≡ false = not_above (At span.after) (first_after s.end s.segments) g.mark holds.above lies.0 in
    let high : less (end_of span) reach ≡ false = not_above reach g.upto (end_of span) meets.within_it (not_above g.upto s.end (end_of span) lies.1 holds.below) in
    ap (λ (x : Option Segment). are_written last keys reach rows x) found ∙ report_rows es span last keys written reach rows tried spent g low high tells

honest_rows : {R : Type 0} (es : List (Entry R)) (span : Span) (last : Last) (keys : List (List ℕ)) (written : AreWritten es span last keys) (s : State) (event : Event)
    → fits s event ≡ true → IsHonest es s event → Holds (Unit {0}) es (At span.after) (end_of span) s → has_rows last keys s event ≡ true
honest_rows es span last keys written s (Take seat n) fit honest holds = refl
honest_rows es span last keys written s (Steal seat victim cut n) fit honest holds = refl
honest_rows es span last keys written s (Report seat n reach rows tried spent) fit honest holds =
    report_at es span last keys written s seat n reach rows tried spent (segment_of n s.segments) refl fit honest holds
honest_rows es span last keys written s (GiveUp seat n) fit honest holds = refl
honest_rows es span last keys written s (Drain rows) fit honest holds = refl
honest_rows es span last keys written s (StopAt mark) fit honest holds = refl
honest_rows es span last keys written s (Look seat) fit honest holds = refl

-- ---- a log

accepted : {R : Type 0} (es : List (Entry R)) (span : Span) (workers : ℕ) (last : Last) (keys : List (List ℕ)) (s : State) (log : List Event) (new : State) → Ascends es → AreWritten es span last keys
    → HonestRuns es s log new → AreShown workers log → Holds (Unit {0}) es (At span.after) (end_of span) s → Accepts workers last keys s log new
accepted es span workers last keys s [] new asc written runs shown holds = runs
accepted es span workers last keys s (event ∷ log) new asc written runs shown holds =
    let step = runs.3 in
    let more = kept-step (Unit {0}) es (At span.after) (end_of span) s event runs.0 runs.1 asc (λ _. runs.2) step holds in
    let rest = accepted es span workers last keys runs.1 log new asc written runs.4 shown.2 more in
    (shown.0, step.fit, shown.1, honest_rows es span last keys written s event step.fit runs.2 holds, subst (λ (x : State). Accepts workers last keys x log new) step.new_is rest)

pub honest : {R : Type 0} → HonestLaw R
honest es span workers last keys log new asc written runs shown =
    accepted es span workers last keys (opening span (cuts_for span workers)) log new asc written runs shown (kept-opening (Unit {0}) es span (cuts_for span workers) (cuts_inside span workers))
