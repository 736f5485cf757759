-- A listing that ends at a spent candidate.
use Rattle.std.proofs.Common.{◌≡◌, ℕ, List, [], ◌∷◌, ◌++◌, Bool, true, false, length, refl, sym, ap, ◌∙◌, subst, arith}
use Rattle.std.specs.Prelude.{Option, Some, None, ◌&&◌, not, filter, map, if◌then◌else◌}
use Rattle.std.specs.List.{list_all}
use Rattle.kr_base.specs.declared.span.Bound.{Bound}
use Rattle.kr_base.specs.declared.span.Bound.TheVariants.{At}
use Rattle.kr_base.specs.declared.span.Span.{Span}
use Rattle.kr_base.specs.declared.entry.Entry.{Entry}
use Rattle.kr_base.specs.declared.entry.Mark.{Mark}
use Rattle.kr_base.specs.declared.entry.Mark.TheVariants.{Valid, Invalid, Spent as SpentMark}
use Rattle.kr_base.specs.Bounds.{is_same, less}
use Rattle.kr_base.specs.Cuts.{Before}
use Rattle.kr_base.specs.Entries.{AllAfter, Ascends, NoneSpent, entries_in, is_spent, is_valid, is_within, through_spent, within}
use Rattle.kr_base.proofs.Bounds.{asymmetric, irreflexive, less_from_before, transitive}
use Rattle.kr_core.specs.declared.event.Event.{Event}
use Rattle.kr_core.specs.States.{State}
use Rattle.kr_core.specs.Counts.{EndsSpent, IsSpentFlag, last_stop}
use Rattle.kr_core.specs.Cutting.{cuts_for}
use Rattle.kr_core.specs.Openings.{end_of}
use Rattle.kr_core.proofs.Bools.{and-left, and-right}
use Rattle.kr_core.proofs.Cuts.{cuts_inside}
use Rattle.kr_core.proofs.Ends.{counting_law}
use Rattle.kr_survey.specs.Listings.{spent_in}
use Rattle.kr_trace.specs.declared.ending.Last.TheVariants.{Spent}
use Rattle.kr_trace.specs.Checked.{agrees, are_below}
use Rattle.korat_top_laws.specs.Honest.{valid_keys}
use Rattle.korat_top_laws.specs.Spent.{EndsAtSpent, SaysSpent, SpentLaw}
use Rattle.korat_top_laws.proofs.Whole.{each_closed}

-- ---- the first spent entry

none_spent : {R : Type 0} (es : List (Entry R)) → NoneSpent es → spent_in es ≡ None
none_spent [] h = refl
none_spent (e ∷ es) h = ap (λ (b : Bool). if b then Some e.key else spent_in es) h.0 ∙ none_spent es h.1

pub last_spent : {R : Type 0} (es : List (Entry R)) (e : Entry R) → NoneSpent es → is_spent e.mark ≡ true → spent_in (es ++ e ∷ []) ≡ Some e.key
last_spent [] e h s = ap (λ (b : Bool). if b then Some e.key else None) s
last_spent (f ∷ es) e h s = ap (λ (b : Bool). if b then Some f.key else spent_in (es ++ e ∷ [])) h.0 ∙ last_spent es e h.1 s

flagged : {R : Type 0} (flag : Bool) (b : Bound) (es : List (Entry R)) (key : List ℕ) → IsSpentFlag flag b es → spent_in es ≡ Some key → (flag ≡ true) × (b ≡ At key)
flagged false b es key h spent = let none : None ≡ Some key = sym (none_spent es h) ∙ spent in absurd (cc (none))
flagged true b es key h spent =
    let same : Some h.last.key ≡ Some key = sym (ap spent_in h.split ∙ last_spent h.before h.last h.none_before h.last_spent) ∙ spent in
    let key_is : h.last.key ≡ key = cc (same) in
    (refl, sym h.key_is ∙ ap At key_is)

spent_after : {R : Type 0} (k key : List ℕ) (es : List (Entry R)) → AllAfter k es → spent_in es ≡ Some key → less (At k) (At key) ≡ true
spent_after k key [] h spent = absurd (cc (spent))
spent_after k key (e ∷ es) h spent =
    elim (is_spent e.mark) as (λ t. (if t then Some e.key else spent_in es) ≡ Some key → less (At k) (At key) ≡ true) [
      | true ↦ λ q. let same : e.key ≡ key = cc (q) in subst (λ (x : List ℕ). less (At k) (At x) ≡ true) same (less_from_before k e.key h.0)
      | false ↦ λ q. spent_after k key es h.1 q
    ] spent

-- ---- entries within bounds

pub after_within : {R : Type 0} (a b : Bound) (k : List ℕ) (es : List (Entry R)) → AllAfter k es → AllAfter k (within a b es)
after_within a b k [] h = tt
after_within {R} a b k (e ∷ es) h = elim (is_within a b e.key) as (λ t. AllAfter k (if t then e ∷ within a b es else within a b es)) [
  | true ↦ (h.0, after_within a b k es h.1)
  | false ↦ after_within a b k es h.1
]

pub ascends_within : {R : Type 0} (a b : Bound) (es : List (Entry R)) → Ascends es → Ascends (within a b es)
ascends_within a b [] h = tt
ascends_within {R} a b (e ∷ es) h = elim (is_within a b e.key) as (λ t. Ascends (if t then e ∷ within a b es else within a b es)) [
  | true ↦ (after_within a b e.key es h.0, ascends_within a b es h.1)
  | false ↦ ascends_within a b es h.1
]

-- none is above a bound that the one before isn't below
above_none : {R : Type 0} (a b : Bound) (k : List ℕ) (es : List (Entry R)) → AllAfter k es → less b (At k) ≡ true → within a b es ≡ []
above_none a b k [] h past = refl
above_none {R} a b k (e ∷ es) h past =
    let high : less b (At e.key) ≡ true = transitive b (At k) (At e.key) past (less_from_before k e.key h.0) in
    out (less a (At e.key)) high ∙ above_none a b k es h.1 past
  where
    out : (t : Bool) → less b (At e.key) ≡ true → (if t && not (less b (At e.key)) then e ∷ within a b es else within a b es) ≡ within a b es
    out true high = ap (λ (u : Bool). if not u then e ∷ within a b es else within a b es) high
    out false high = refl

at_none : {R : Type 0} (a : Bound) (k : List ℕ) (es : List (Entry R)) → AllAfter k es → within a (At k) es ≡ []
at_none a k [] h = refl
at_none {R} a k (e ∷ es) h =
    let high : less (At k) (At e.key) ≡ true = less_from_before k e.key h.0 in
    out (less a (At e.key)) high ∙ at_none a k es h.1
  where
    out : (t : Bool) → less (At k) (At e.key) ≡ true → (if t && not (less (At k) (At e.key)) then e ∷ within a (At k) es else within a (At k) es) ≡ within a (At k) es
    out true high = ap (λ (u : Bool). if not u then e ∷ within a (At k) es else within a (At k) es) high
    out false high = refl

-- ---- their keys

pub not_valid : {R : Type 0} (mark : Mark R) → is_spent mark ≡ true → is_valid mark ≡ false
not_valid (Valid row) h = absurd (cc (h))
not_valid Invalid h = absurd (cc (h))
not_valid SpentMark h = refl

pub keys_without : {R : Type 0} (e : Entry R) (es : List (Entry R)) → is_valid e.mark ≡ false → valid_keys (e ∷ es) ≡ valid_keys es
keys_without {R} e es h = ap (λ (t : Bool). map (λ (x : Entry R). x.key) (if t then e ∷ filter (λ (x : Entry R). is_valid x.mark) es else filter (λ (x : Entry R). is_valid x.mark) es)) h

pub keys_with : {R : Type 0} (e : Entry R) (es fs : List (Entry R)) → valid_keys es ≡ valid_keys fs → valid_keys (e ∷ es) ≡ valid_keys (e ∷ fs)
keys_with {R} e es fs h =
    elim (is_valid e.mark) as (λ t. map (λ (x : Entry R). x.key) (if t then e ∷ filter (λ (x : Entry R). is_valid x.mark) es else filter (λ (x : Entry R). is_valid x.mark) es)
    ≡ map (λ (x : Entry R). x.key) (if t then e ∷ filter (λ (x : Entry R). is_valid x.mark) fs else filter (λ (x : Entry R). is_valid x.mark) fs)) [
      | true ↦ ap (λ (ks : List (List ℕ)). e.key ∷ ks) h
      | false ↦ h
    ]

-- the rows up to the first spent entry are those up to its key
keys_to : {R : Type 0} (es : List (Entry R)) (a b : Bound) (key : List ℕ) → Ascends es → spent_in (within a b es) ≡ Some key → valid_keys (through_spent (within a b es)) ≡ valid_keys (within a (At key) es)
keys_to [] a b key asc spent = absurd (cc (spent))
keys_to {R} (e ∷ es) a b key asc spent = by_place (λ q. keys_to es a b key asc.1 q) (is_within a b e.key) refl spent
  where
    within_key : less a (At e.key) ≡ true → less (At e.key) (At key) ≡ true → within a (At key) (e ∷ es) ≡ e ∷ within a (At key) es
    within_key above below =
        ap (λ (t : Bool). if t && not (less (At key) (At e.key)) then e ∷ within a (At key) es else within a (At key) es) above
        ∙ ap (λ (t : Bool). if not t then e ∷ within a (At key) es else within a (At key) es) (asymmetric (At e.key) (At key) below)

    without_key : is_valid e.mark ≡ false → valid_keys (within a (At key) (e ∷ es)) ≡ valid_keys (within a (At key) es)
    without_key invalid = elim (is_within a (At key) e.key) as (λ t. valid_keys (if t then e ∷ within a (At key) es else within a (At key) es) ≡ valid_keys (within a (At key) es)) [
      | true ↦ keys_without e (within a (At key) es) invalid
      | false ↦ refl
    ]

    by_mark : (spent_in (within a b es) ≡ Some key → valid_keys (through_spent (within a b es)) ≡ valid_keys (within a (At key) es)) → (t : Bool) → is_spent e.mark ≡ t → less a (At e.key) ≡ true → (if t then Some e.key else spent_in (within a b es)) ≡ Some key
        → valid_keys (e ∷ (if t then [] else through_spent (within a b es))) ≡ valid_keys (within a (At key) (e ∷ es))
    by_mark ih true m above q =
        let same : e.key ≡ key = cc (q) in
        let invalid = not_valid e.mark m in
        let after : AllAfter key es = subst (λ (k : List ℕ). AllAfter k es) same asc.0 in
        keys_without e [] invalid ∙ sym (without_key invalid ∙ ap valid_keys (at_none a key es after))
    by_mark ih false m above q =
        let below : less (At e.key) (At key) ≡ true = spent_after e.key key (within a b es) (after_within a b e.key es asc.0) q in
        keys_with e (through_spent (within a b es)) (within a (At key) es) (ih q) ∙ sym (ap valid_keys (within_key above below))

    outside : (spent_in (within a b es) ≡ Some key → valid_keys (through_spent (within a b es)) ≡ valid_keys (within a (At key) es)) → (t u : Bool) → less a (At e.key) ≡ t → less b (At e.key) ≡ u → (t && not u) ≡ false → spent_in (within a b es) ≡ Some key
        → valid_keys (through_spent (within a b es)) ≡ valid_keys (within a (At key) (e ∷ es))
    outside ih false u p r w q =
        ih q ∙ sym (ap (λ (t : Bool). valid_keys (if t && not (less (At key) (At e.key)) then e ∷ within a (At key) es else within a (At key) es)) p)
    outside ih true false p r w q = absurd (cc (w))
    outside ih true true p r w q = let none : None ≡ Some key = sym (ap spent_in (above_none a b e.key es asc.0 r)) ∙ q in absurd (cc (none))

    by_place : (spent_in (within a b es) ≡ Some key → valid_keys (through_spent (within a b es)) ≡ valid_keys (within a (At key) es)) → (t : Bool) → is_within a b e.key ≡ t → spent_in (if t then e ∷ within a b es else within a b es) ≡ Some key
        → valid_keys (through_spent (if t then e ∷ within a b es else within a b es)) ≡ valid_keys (within a (At key) (e ∷ es))
    by_place ih true w q = by_mark ih (is_spent e.mark) refl (and-left (less a (At e.key)) (not (less b (At e.key))) w) q
    by_place ih false w q = outside ih (less a (At e.key)) (less b (At e.key)) refl refl w q

-- and they are below it
keys_below : {R : Type 0} (es : List (Entry R)) (key : List ℕ) → Ascends es → spent_in es ≡ Some key → are_below key (valid_keys (through_spent es)) ≡ true
keys_below [] key asc spent = absurd (cc (spent))
keys_below {R} (e ∷ es) key asc spent = by_mark (λ q. keys_below es key asc.1 q) (is_spent e.mark) refl spent
  where
    with_it : (t : Bool) → less (At e.key) (At key) ≡ true → are_below key (valid_keys (through_spent es)) ≡ true
        → are_below key (map (λ (x : Entry R). x.key) (if t then e ∷ filter (λ (x : Entry R). is_valid x.mark) (through_spent es) else filter (λ (x : Entry R). is_valid x.mark) (through_spent es))) ≡ true
    with_it true below rest = rw below rest
    with_it false below rest = rest

    by_mark : (spent_in es ≡ Some key → are_below key (valid_keys (through_spent es)) ≡ true) → (t : Bool) → is_spent e.mark ≡ t → (if t then Some e.key else spent_in es) ≡ Some key → are_below key (valid_keys (e ∷ (if t then [] else through_spent es))) ≡ true
    by_mark ih true m q = ap (are_below key) (keys_without e [] (not_valid e.mark m))
    by_mark ih false m q = with_it (is_valid e.mark) (spent_after e.key key es asc.0 q) (ih q)

-- ---- together

spent_says : (span : Span) (keys : List (List ℕ)) (failing : ℕ) (new : State) (key : List ℕ) → new.spent ≡ true → new.end ≡ At key → are_below key keys ≡ true
    → agrees span (record { keys = keys; failing = failing }) new (Spent key) ≡ true
spent_says span keys failing new key spent ended below =
    let here : less new.end (At key) ≡ false = ap (λ (b : Bound). less b (At key)) ended ∙ irreflexive (At key) in
    let there : less (At key) new.end ≡ false = ap (less (At key)) ended ∙ irreflexive (At key) in
    rw (spent, here, there, below) refl

pub spent : {R : Type 0} → SpentLaw R
spent {R} es span workers key log new h =
    let a = At span.after in
    let counts = counting_law es span (cuts_for span workers) log new h.ascends (cuts_inside span workers) h.runs in
    let listed = counts.listed (each_closed new.segments h.closed) in
    let whole : entries_in a new.end es ≡ entries_in a span.upto es = listed.whole (ap (λ (b : Bound). less b span.upto) h.unstopped ∙ irreflexive span.upto) in
    let flag = flagged new.spent new.end (entries_in a span.upto es) key (subst (λ (xs : List (Entry R)). IsSpentFlag new.spent new.end xs) whole listed.spent) h.spent in
    let first : spent_in (within a span.upto es) ≡ Some key = sym (first_through (within a span.upto es)) ∙ h.spent in
    record {
      keys_are = keys_to es a span.upto key h.ascends first;
      inside = ap (less (end_of span)) (sym flag.1) ∙ counts.ends;
      says = λ failing. spent_says span (valid_keys (entries_in a span.upto es)) failing new key flag.0 flag.1 (keys_below (within a span.upto es) key (ascends_within a span.upto es h.ascends) first);
    }
  where
    first_through : (xs : List (Entry R)) → spent_in (through_spent xs) ≡ spent_in xs
    first_through [] = refl
    first_through (x ∷ xs) = elim (is_spent x.mark) as (λ t. (if t then Some x.key else spent_in (if t then [] else through_spent xs)) ≡ (if t then Some x.key else spent_in xs)) [
      | true ↦ refl
      | false ↦ first_through xs
    ]
