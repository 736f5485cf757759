-- A finished board that nobody stopped lists the span.
use Rattle.std.proofs.Common.{◌≡◌, ℕ, List, [], ◌∷◌, ◌++◌, Bool, true, false, ◌&&◌, ◌||◌, not, length, drop, refl, sym, ap, ◌∙◌, subst}
use Rattle.std.specs.Prelude.{if◌then◌else◌}
use Rattle.kr_base.specs.declared.span.Bound.{Bound}
use Rattle.kr_base.specs.declared.span.Bound.TheVariants.{At}
use Rattle.kr_base.specs.declared.span.Span.{Span}
use Rattle.kr_base.specs.declared.entry.Entry.{Entry}
use Rattle.kr_base.specs.Bounds.{less}
use Rattle.kr_base.specs.Entries.{Ascends, AllAfter, is_spent, is_within, within, through_spent, entries_in, NoneSpent}
use Rattle.kr_base.proofs.Bounds.{irreflexive, less_from_before}
use Rattle.kr_survey.specs.declared.part.Listing.{Listing}
use Rattle.kr_survey.specs.Scans.{rows_of}
use Rattle.kr_core.specs.declared.event.Event.{Event}
use Rattle.kr_core.specs.declared.event.Event.TheVariants.{Take, Steal, Report, GiveUp, Drain, StopAt, Look}
use Rattle.kr_base.specs.Causes.{capped}
use Rattle.kr_core.specs.Openings.{opening}
use Rattle.kr_core.specs.Counts.{EndsSpent, HonestRuns, IsSpentFlag, Counts, last_stop}
use Rattle.kr_core.specs.Rows.{drained}
use Rattle.kr_core.proofs.Bools.{and-left, and-right}
use Rattle.kr_core.proofs.Ends.{counting_law}
use Rattle.kr_board.specs.Held.{Held}
use Rattle.kr_board.specs.Closing.{all_closed, Lists as BoardLists}
use Rattle.kr_board.proofs.Draining.{closed-each}
use Rattle.kr_pool_desk.specs.Runs.{is_shared, are_shared, IsRun}
use Rattle.kr_survey.specs.Listings.{listed_in, spent_in}
use Rattle.kr_pool_desk.specs.Listings.{ListsFrom}
use Rattle.kr_pool_desk.specs.Short.{AreShortEvents}
use Rattle.kr_pool_desk.specs.Traces.{is_last_stop, are_by, Finishes}

-- nothing is cut off where the last one alone is spent
none-above : {R : Type 0} (a e : Bound) (k : List ℕ) (es : List (Entry R)) → AllAfter k es → At k ≡ e → within a e es ≡ []
none-above a e k [] h q = refl
none-above {R} a e k (x ∷ es) h q =
    let above : less e (At x.key) ≡ true = ap (λ (b : Bound). less b (At x.key)) (sym q) ∙ less_from_before k x.key h.0 in
    elim (less a (At x.key)) as (λ t. (if t && not (less e (At x.key)) then x ∷ within a e es else within a e es) ≡ []) [
      | true ↦ rw above (none-above a e k es h.1 q)
      | false ↦ none-above a e k es h.1 q
    ]

last-one : {R : Type 0} (x last : Entry R) (before : List (Entry R)) → x ∷ [] ≡ before ++ last ∷ [] → x ≡ last
last-one x last [] h = cc (h)
last-one x last (y ∷ []) h = absurd (cc (h))
last-one x last (y ∷ (z ∷ before)) h = absurd (cc (h))

ends-later : {R : Type 0} (b : Bound) (x : Entry R) (rest before : List (Entry R)) (last : Entry R) → is_spent x.mark ≡ false → x ∷ rest ≡ before ++ last ∷ [] → NoneSpent before → is_spent last.mark ≡ true
    → At last.key ≡ b → EndsSpent b rest
ends-later {R} b x rest [] last free h none spent key = let same : x ≡ last = cc (h) in absurd (cc (sym free ∙ (ap (λ (e : Entry R). is_spent e.mark) same ∙ spent)))
ends-later {R} b x rest (y ∷ before) last free h none spent key =
    record { before = before; last = last; split = cc (h); none_before = none.1; last_spent = spent; key_is = key }

pub through-ends : {R : Type 0} (a e : Bound) (es : List (Entry R)) → Ascends es → EndsSpent e (through_spent (within a e es)) → through_spent (within a e es) ≡ within a e es
through-ends a e [] asc h = refl
through-ends {R} a e (x ∷ es) asc h =
    elim (is_within a e x.key) as (λ b. EndsSpent e (through_spent (if b then x ∷ within a e es else within a e es))
    → through_spent (if b then x ∷ within a e es else within a e es) ≡ (if b then x ∷ within a e es else within a e es)) [
      | true ↦ λ k.
          elim (is_spent x.mark) as (λ t. is_spent x.mark ≡ t → EndsSpent e (x ∷ (if t then [] else through_spent (within a e es))) → x ∷ (if t then [] else through_spent (within a e es)) ≡ x ∷ within a e es) [
            | true ↦ λ q m.
                let same = last-one x m.last m.before m.split in
                ap (λ (l : List (Entry R)). x ∷ l) (sym (none-above a e x.key es asc.0 (ap (λ (y : Entry R). At y.key) same ∙ m.key_is)))
            | false ↦ λ q m.
                ap (λ (l : List (Entry R)). x ∷ l) (through-ends a e es asc.1 (ends-later e x (through_spent (within a e es)) m.before m.last q m.split m.none_before m.last_spent m.key_is))
          ] refl k
      | false ↦ λ k. through-ends a e es asc.1 k
    ] h

through-free : {R : Type 0} (xs : List (Entry R)) → NoneSpent (through_spent xs) → through_spent xs ≡ xs
through-free [] h = refl
through-free {R} (x ∷ xs) h =
    elim (is_spent x.mark) as (λ t. is_spent x.mark ≡ t → NoneSpent (x ∷ (if t then [] else through_spent xs)) → x ∷ (if t then [] else through_spent xs) ≡ x ∷ xs) [
      | true ↦ λ q m. absurd (cc (sym q ∙ m.0))
      | false ↦ λ q m. ap (λ (l : List (Entry R)). x ∷ l) (through-free xs m.1)
    ] refl h

pub through-flag : {R : Type 0} (flag : Bool) (a e : Bound) (es : List (Entry R)) → Ascends es → IsSpentFlag flag e (entries_in a e es) → entries_in a e es ≡ within a e es
through-flag true a e es asc h = through-ends a e es asc h
through-flag false a e es asc h = through-free (within a e es) h

-- no event is a stop

pub none-stops : (b : Bound) (workers : ℕ) (events : List Event) → are_shared workers events ≡ true → last_stop b events ≡ b
none-stops b workers [] h = refl
none-stops b workers (Take seat n ∷ events) h = none-stops b workers events (and-right (is_shared workers (Take seat n)) (are_shared workers events) h)
none-stops b workers (Steal seat victim cut n ∷ events) h = none-stops b workers events (and-right (is_shared workers (Steal seat victim cut n)) (are_shared workers events) h)
none-stops b workers (Report seat n reach rows tried spent ∷ events) h = none-stops b workers events (and-right (is_shared workers (Report seat n reach rows tried spent)) (are_shared workers events) h)
none-stops b workers (GiveUp seat n ∷ events) h = none-stops b workers events (and-right (is_shared workers (GiveUp seat n)) (are_shared workers events) h)
none-stops b workers (Drain rows ∷ events) h = none-stops b workers events (and-right (is_shared workers (Drain rows)) (are_shared workers events) h)
none-stops b workers (StopAt mark ∷ events) h = absurd (cc (h))
none-stops b workers (Look seat ∷ events) h = none-stops b workers events (and-right (is_shared workers (Look seat)) (are_shared workers events) h)

pub whole_listing : {R : Type 0} (all : List (Entry R)) (span : Span) (cuts : List (List ℕ)) (ops : List Event) (workers calls : ℕ) (b : Held R) (l : Listing R) → IsRun all span cuts ops workers b calls
    → all_closed b.core ≡ true → BoardLists b l → ListsFrom (drained b.log) (listed_in all span) l
whole_listing {R} all span cuts ops workers calls b l k closed is =
    let c : Counts all span b.log b.core = counting_law all span cuts b.log b.core k.ascends k.inside k.board.honest in
    let done = c.listed (closed-each b.core.segments closed) in
    let of = is all span cuts k.ascends k.inside k.board in
    let stop : less (last_stop span.upto b.log) span.upto ≡ false = ap (λ (e : Bound). less e span.upto) (none-stops span.upto workers b.log k.grown.shared) ∙ irreflexive span.upto in
    let whole : entries_in (At span.after) b.core.end all ≡ listed_in all span = done.whole stop in
    let same = through-flag b.core.spent (At span.after) b.core.end all k.ascends done.spent in
    record {
      rows = of.rows ∙ ap (λ (es : List (Entry R)). drop (drained b.log) (rows_of es)) (sym same ∙ whole);
      tried = of.tried ∙ ap (λ (es : List (Entry R)). capped (length es)) whole;
      spent = of.spent ∙ ap (λ (es : List (Entry R)). spent_in es) whole;
    }

-- events of seats, and at their end a stop

pub by_shared : (workers : ℕ) (log : List Event) → are_shared workers log ≡ true → are_by workers log ≡ true
by_shared workers [] h = refl
by_shared workers (e ∷ events) h =
    ap (λ (b : Bool). (b || is_last_stop e events) && are_by workers events) (and-left (is_shared workers e) (are_shared workers events) h)
    ∙ by_shared workers events (and-right (is_shared workers e) (are_shared workers events) h)

pub by_stopped : (workers : ℕ) (log : List Event) (mark : List ℕ) → are_shared workers log ≡ true → are_by workers (log ++ StopAt mark ∷ []) ≡ true
by_stopped workers [] mark h = refl
by_stopped workers (e ∷ events) mark h =
    ap (λ (b : Bool). (b || is_last_stop e (events ++ StopAt mark ∷ [])) && are_by workers (events ++ StopAt mark ∷ [])) (and-left (is_shared workers e) (are_shared workers events) h)
    ∙ by_stopped workers events mark (and-right (is_shared workers e) (are_shared workers events) h)

-- and its log is a finished one
pub finishes : {R : Type 0} (all : List (Entry R)) (span : Span) (cuts : List (List ℕ)) (ops : List Event) (workers calls : ℕ) (b : Held R) (log : List Event) → IsRun all span cuts ops workers b calls
    → all_closed b.core ≡ true → log ≡ b.log → Finishes all (opening span cuts) workers log
finishes all span cuts ops workers calls b log k closed is = record {
  last = b.core;
  runs = subst (λ (l : List Event). HonestRuns all (opening span cuts) l b.core) (sym is) k.board.honest;
  seats = ap (λ (l : List Event). are_by workers l) is ∙ by_shared workers b.log k.grown.shared;
  closed = closed;
  short = λ s. subst AreShortEvents (sym is) (k.short s);
}
