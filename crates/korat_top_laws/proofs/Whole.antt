-- A whole listing with its log is accepted.
use Rattle.std.proofs.Common.{◌≡◌, ℕ, zero, suc, ◌+◌, ◌^◌, ◌<◌, ◌≤◌, List, [], ◌∷◌, ◌++◌, Bool, true, false, length, refl, sym, ap, ◌∙◌, subst, arith, append_assoc, decimal, min}
use Rattle.std.specs.Prelude.{Option, Some, None, Result, Ok, ◌&&◌, ◌==◌, not, codes, filter, map, if◌then◌else◌, option_and_then}
use Rattle.std.specs.Option.{option_map}
use Rattle.std.specs.List.{list_all, sum_by}
use Rattle.std.proofs.lemmas.Bool.{eq-eqb, not-true}
use Rattle.kr_base.specs.declared.span.Bound.{Bound}
use Rattle.kr_base.specs.declared.span.Bound.TheVariants.{At, End}
use Rattle.kr_base.specs.declared.span.Span.{Span}
use Rattle.kr_base.specs.declared.entry.Entry.{Entry}
use Rattle.kr_base.specs.Bounds.{is_same, less}
use Rattle.kr_base.specs.Causes.{capped}
use Rattle.kr_base.specs.Cuts.{Before}
use Rattle.kr_base.specs.Entries.{AllAfter, Ascends, NoneSpent, entries_in, is_spent, is_valid, is_within, through_spent, within}
use Rattle.kr_base.proofs.Bounds.{irreflexive, less_from_before}
use Rattle.kr_text.specs.Splitting.{IsWithout, number_of}
use Rattle.kr_core.specs.declared.event.Event.{Event}
use Rattle.kr_core.specs.declared.segment.Segment.{Segment}
use Rattle.kr_core.specs.States.{Each, State, is_closed}
use Rattle.kr_core.specs.Cutting.{cuts_for}
use Rattle.kr_core.specs.Openings.{end_of, opening}
use Rattle.kr_core.proofs.Bools.{and-left, and-right}
use Rattle.kr_core.proofs.Cuts.{cuts_inside}
use Rattle.kr_core.proofs.Ends.{counting_law}
use Rattle.kr_trace.specs.declared.ending.Last.{Last}
use Rattle.kr_trace.specs.declared.ending.Last.TheVariants.{Listed}
use Rattle.kr_trace.specs.declared.row.Row.{Row}
use Rattle.kr_trace.specs.Words.{counted_in, last_by, last_in, row_in, words_in}
use Rattle.kr_trace.specs.declared.refusal.TraceRule.TheVariants.{KeyOrder}
use Rattle.kr_trace.specs.Checked.{Checked, Rows, agrees, and_then, bad, is_whole, row_after, rows_from, tried_in, with_row}
use Rattle.kr_shard_laws.proofs.Bytes.{without_append}
use Rattle.korat_top_laws.specs.Honest.{AreWritten, valid_keys}
use Rattle.korat_top_laws.specs.Texts.{AreRows, IsTraced}
use Rattle.korat_top_laws.specs.Whole.{AreRowsOf, IsRowOf, IsWhole, WholeLaw, listed_line}
use Rattle.korat_top_laws.proofs.Pieces.{alone, number_back, number_word, spaced}
use Rattle.korat_top_laws.proofs.Honest.{honest}
use Rattle.korat_top_laws.proofs.Texts.{traced}

-- ---- the last line

listed_words : (a b : List ℕ) → IsWithout 32 a → IsWithout 32 b → words_in (codes "valid " ++ (a ++ (codes " tried " ++ b))) ≡ codes "valid" ∷ a ∷ codes "tried" ∷ b ∷ []
listed_words a b h k =
    ap (λ (ws : List (List ℕ)). codes "valid" ∷ ws)
    (spaced a (codes "tried " ++ b) h ∙ ap (λ (ws : List (List ℕ)). a ∷ codes "tried" ∷ ws) (alone b k))

counted_back : (a b : List ℕ) (v t : ℕ) → number_of a ≡ Some v → number_of b ≡ Some t → counted_in (a ∷ codes "tried" ∷ b ∷ []) ≡ Some (Listed v t)
counted_back a b v t h k =
    ap (option_and_then (λ (x : ℕ). option_map (λ (y : ℕ). Listed x y) (number_of b))) h ∙ ap (option_map (λ (y : ℕ). Listed v y)) k

pub last_back : (v t : ℕ) → v < 2 ^ 64 → t < 2 ^ 64 → last_in (listed_line v t) ≡ Some (Listed v t)
last_back v t h k =
    ap last_by (listed_words (decimal v) (decimal t) (number_word v).one_word (number_word t).one_word)
    ∙ counted_back (decimal v) (decimal t) v t (number_back v h) (number_back t k)

pub last_one : (v t : ℕ) → IsWithout 10 (listed_line v t)
last_one v t =
    without_append 10 (codes "valid ") (decimal v ++ (codes " tried " ++ decimal t)) (refl, (refl, (refl, (refl, (refl, (refl, tt))))))
    (without_append 10 (decimal v) (codes " tried " ++ decimal t) (number_word v).one_line
    (without_append 10 (codes " tried ") (decimal t) (refl, (refl, (refl, (refl, (refl, (refl, (refl, tt))))))) (number_word t).one_line))

-- ---- rows

are_rows : (keys lines : List (List ℕ)) → AreRowsOf keys lines → AreRows lines
are_rows [] [] h = tt
are_rows [] (line ∷ lines) h = absurd h
are_rows (key ∷ keys) [] h = absurd h
are_rows (key ∷ keys) (line ∷ lines) h = (h.0.one_line, h.0.no_last, are_rows keys lines h.1)

as_long : (keys lines : List (List ℕ)) → AreRowsOf keys lines → length lines ≡ length keys
as_long [] [] h = refl
as_long [] (line ∷ lines) h = absurd h
as_long (key ∷ keys) [] h = absurd h
as_long (key ∷ keys) (line ∷ lines) h = ap suc (as_long keys lines h.1)

-- each key is above the one before, the first above a cut, and none above a bound
abbrev pub Climbs : Bound → List ℕ → List (List ℕ) → Type 0
Climbs end before [] = Unit {0}
Climbs end before (k ∷ ks) = (is_within (At before) end k ≡ true) × Climbs end k ks

rows_back : (end : Bound) (before : List ℕ) (n : ℕ) (keys lines : List (List ℕ)) → AreRowsOf keys lines → Climbs end before keys → rows_from false end before n lines ≡ Ok (record { keys = keys; failing = 0 })
rows_back end before n [] [] h c = refl
rows_back end before n [] (line ∷ lines) h c = absurd h
rows_back end before n (key ∷ keys) [] h c = absurd h
rows_back end before n (key ∷ keys) (line ∷ lines) h c =
    let row : Row = record { key = key; passes = true } in
    let first : row_after end before n (row_in false line) ≡ Ok row =
    ap (row_after end before n) h.0.read ∙ ap (λ (b : Bool). if b then Ok row else bad n KeyOrder) c.0 in
    ap (λ (r : Checked Row). and_then r (λ row. and_then (rows_from false end row.key (n + 1) lines) (λ rows. Ok (with_row row rows)))) first
    ∙ ap (λ (r : Checked Rows). and_then r (λ rows. Ok (with_row row rows))) (rows_back end key (n + 1) keys lines h.1 c.1)

-- keys above a cut are above another
abbrev Later : {R : Type 0} → List ℕ → List ℕ → List (Entry R) → Type 0
Later a before [] = Unit {0}
Later a before (e ∷ es) = (less (At a) (At e.key) ≡ true → less (At before) (At e.key) ≡ true) × Later a before es

pub later_self : {R : Type 0} (a : List ℕ) (es : List (Entry R)) → Later a a es
later_self a [] = tt
later_self a (e ∷ es) = (λ h. h, later_self a es)

later_after : {R : Type 0} (a k : List ℕ) (es : List (Entry R)) → AllAfter k es → Later a k es
later_after a k [] h = tt
later_after a k (e ∷ es) h = (λ x. less_from_before k e.key h.0, later_after a k es h.1)

pub climbs : {R : Type 0} (es : List (Entry R)) (a before : List ℕ) (end : Bound) → Ascends es → Later a before es → Climbs end before (valid_keys (within (At a) end es))
climbs [] a before end asc h = tt
climbs {R} (e ∷ es) a before end asc h =
    elim (is_within (At a) end e.key) as (λ t. is_within (At a) end e.key ≡ t → Climbs end before (valid_keys (if t then e ∷ within (At a) end es else within (At a) end es))) [
      | true ↦ λ w. elim (is_valid e.mark) as (λ t. Climbs end before (map (λ (x : Entry R). x.key) (if t then e ∷ filter (λ (x : Entry R). is_valid x.mark) (within (At a) end es) else filter (λ (x : Entry R). is_valid x.mark) (within (At a) end es)))) [
        | true ↦
            let above : less (At before) (At e.key) ≡ true = h.0 (and-left (less (At a) (At e.key)) (not (less end (At e.key))) w) in
            let below = and-right (less (At a) (At e.key)) (not (less end (At e.key))) w in
            (rw above below, climbs es a e.key end asc.1 (later_after a e.key es asc.0))
        | false ↦ climbs es a before end asc.1 h.1
      ]
      | false ↦ λ w. climbs es a before end asc.1 h.1
    ] refl

-- ---- how many

fewer : {R : Type 0} (es : List (Entry R)) → length (valid_keys es) ≤ length es
fewer [] = omega arith
fewer {R} (e ∷ es) = elim (is_valid e.mark) as (λ t. length (map (λ (x : Entry R). x.key) (if t then e ∷ filter (λ (x : Entry R). is_valid x.mark) es else filter (λ (x : Entry R). is_valid x.mark) es)) ≤ suc (length es)) [
  | true ↦ omega (arith, fewer es)
  | false ↦ omega (arith, fewer es)
]

all_through : {R : Type 0} (es : List (Entry R)) → NoneSpent es → through_spent es ≡ es
all_through [] h = refl
all_through {R} (e ∷ es) h =
    ap (λ (b : Bool). e ∷ (if b then [] else through_spent es)) h.0 ∙ ap (λ (xs : List (Entry R)). e ∷ xs) (all_through es h.1)

pub each_closed : (segs : List Segment) → list_all is_closed segs ≡ true → Each (λ g. is_closed g ≡ true) segs
each_closed [] h = tt
each_closed (g ∷ gs) h = (and-left (is_closed g) (list_all is_closed gs) h, each_closed gs (and-right (is_closed g) (list_all is_closed gs) h))

uncapped : (n m : ℕ) → m ≡ capped n → n < 2 ^ 64 → n ≡ m
uncapped n m is few = omega (arith, is, few)

-- ---- together

says_whole : (span : Span) (keys : List (List ℕ)) (new : State) (v t : ℕ) → v ≡ length keys → t ≡ tried_in new → new.end ≡ end_of span → new.spent ≡ false
    → agrees span (record { keys = keys; failing = 0 }) new (Listed v t) ≡ true
says_whole span keys new v t valid tried ended not_spent =
    let here : less new.end (end_of span) ≡ false = ap (λ (b : Bound). less b (end_of span)) ended ∙ irreflexive (end_of span) in
    let there : less (end_of span) new.end ≡ false = ap (less (end_of span)) ended ∙ irreflexive (end_of span) in
    rw (eq-eqb v (length keys) valid, eq-eqb t (tried_in new) tried, not_spent, here, there) refl

pub whole : {R : Type 0} → WholeLaw R
whole {R} es span workers lines log h few =
    let all = within (At span.after) (end_of span) es in
    let keys = valid_keys all in
    let v = length lines in
    let t = length all in
    let long : v ≡ length keys = as_long keys lines h.rows in
    let short : length keys < 2 ^ 64 = omega (arith, fewer all, h.few) in
    let counts = counting_law es span (cuts_for span workers) log h.new h.ascends (cuts_inside span workers) h.runs in
    let listed = counts.listed (each_closed h.new.segments h.closed) in
    let entries : entries_in (At span.after) h.new.end es ≡ all =
    ap (λ (b : Bound). entries_in (At span.after) b es) h.ended ∙ all_through all h.unspent in
    let tried : t ≡ tried_in h.new = uncapped t (tried_in h.new) (listed.tried ∙ ap (λ (xs : List (Entry R)). capped (length xs)) entries) h.few in
    let written : AreWritten es span (Listed v t) keys = record { upto = end_of span; keys_are = refl; lowest = λ reach p q. q; few = short } in
    traced span workers lines (listed_line v t) log (record {
      last = Listed v t;
      read = record { keys = keys; failing = 0 };
      new = h.new;
      are_rows = are_rows keys lines h.rows;
      one_line = last_one v t;
      is_last = last_back v t (omega (arith, long, short)) h.few;
      are_read = rows_back (end_of span) span.after 1 keys lines h.rows (climbs es span.after span.after (end_of span) h.ascends (later_self span.after es));
      accepts = honest es span workers (Listed v t) keys log h.new h.ascends written h.runs h.shown;
      closed = h.closed;
      says = says_whole span keys h.new v t long tried h.ended h.not_spent;
    }) few
