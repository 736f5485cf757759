-- A listing or a test with any last line is accepted.
use Rattle.std.proofs.Common.{◌≡◌, ℕ, suc, ◌+◌, ◌^◌, ◌<◌, ◌≤◌, List, [], ◌∷◌, ◌++◌, Bool, true, false, length, refl, sym, ap, ◌∙◌, subst, arith, decimal}
use Rattle.std.specs.Prelude.{Option, Some, None, Ok, ◌&&◌, not, codes, if◌then◌else◌, option_and_then}
use Rattle.std.specs.Option.{option_map}
use Rattle.std.proofs.lemmas.Bool.{not-true}
use Rattle.kr_base.specs.declared.span.Bound.{Bound}
use Rattle.kr_base.specs.declared.span.Bound.TheVariants.{At}
use Rattle.kr_base.specs.declared.span.Span.{Span}
use Rattle.kr_base.specs.declared.entry.Entry.{Entry}
use Rattle.kr_base.specs.Bounds.{less}
use Rattle.kr_base.specs.Cuts.{cut_text}
use Rattle.kr_base.specs.Entries.{is_within, within}
use Rattle.kr_base.specs.Parsing.{cut_of}
use Rattle.kr_base.proofs.Bounds.{not_above}
use Rattle.kr_text.specs.Splitting.{IsWithout, number_of}
use Rattle.kr_core.specs.Openings.{end_of}
use Rattle.kr_core.proofs.Bools.{and-left, and-right}
use Rattle.kr_trace.specs.declared.ending.Last.{Last}
use Rattle.kr_trace.specs.declared.ending.Last.TheVariants.{Listed, Tested, More, Spent}
use Rattle.kr_trace.specs.declared.row.Row.{Row}
use Rattle.kr_trace.specs.declared.refusal.TraceRule.TheVariants.{KeyOrder}
use Rattle.kr_trace.specs.Words.{counted_in, key_in, last_by, last_in, row_in, words_in}
use Rattle.kr_trace.specs.Checked.{Checked, Rows, and_then, bad, horizon, is_test, row_after, rows_from, with_row}
use Rattle.kr_shard_laws.proofs.Bytes.{without_append}
use Rattle.korat_top_laws.specs.Honest.{AreWritten, valid_keys}
use Rattle.korat_top_laws.specs.Listings.{AreLinesOf, IsLineOf, IsLogged, IsShownLast, ListingLaw, last_line, read_of, tested_line, written_to}
use Rattle.korat_top_laws.specs.Printed.{IsShown}
use Rattle.korat_top_laws.specs.Texts.{AreRows, IsTraced}
use Rattle.korat_top_laws.proofs.Pieces.{alone, cut_word, number_back, number_word, spaced}
use Rattle.korat_top_laws.proofs.Honest.{honest}
use Rattle.korat_top_laws.proofs.Texts.{traced}
use Rattle.korat_top_laws.proofs.Whole.{Climbs, climbs, last_back, last_one, later_self}

-- ---- the last line

tested_words : (a b c : List ℕ) → IsWithout 32 a → IsWithout 32 b → IsWithout 32 c
    → words_in (codes "valid " ++ (a ++ (codes " failing " ++ (b ++ (codes " tried " ++ c))))) ≡ codes "valid" ∷ a ∷ codes "failing" ∷ b ∷ codes "tried" ∷ c ∷ []
tested_words a b c h k l =
    ap (λ (ws : List (List ℕ)). codes "valid" ∷ ws)
    (spaced a (codes "failing " ++ (b ++ (codes " tried " ++ c))) h
    ∙ ap (λ (ws : List (List ℕ)). a ∷ codes "failing" ∷ ws) (spaced b (codes "tried " ++ c) k ∙ ap (λ (ws : List (List ℕ)). b ∷ codes "tried" ∷ ws) (alone c l)))

tested_counts : (a b c : List ℕ) (v f t : ℕ) → number_of a ≡ Some v → number_of b ≡ Some f → number_of c ≡ Some t → counted_in (a ∷ codes "failing" ∷ b ∷ codes "tried" ∷ c ∷ []) ≡ Some (Tested v f t)
tested_counts a b c v f t h k l =
    ap (option_and_then (λ (x : ℕ). option_and_then (λ (y : ℕ). option_map (λ (z : ℕ). Tested x y z) (number_of c)) (number_of b))) h
    ∙ (ap (option_and_then (λ (y : ℕ). option_map (λ (z : ℕ). Tested v y z) (number_of c))) k ∙ ap (option_map (λ (z : ℕ). Tested v f z)) l)

key_back : (key : List ℕ) → IsShown key → key_in (words_in (cut_text key)) ≡ Some key
key_back key h = ap key_in (alone (cut_text key) (cut_word key).one_word) ∙ h

last_read : (last : Last) → IsShownLast last → last_in (last_line last) ≡ Some last
last_read (Listed v t) h = last_back v t h.0 h.1
last_read (Tested v f t) h =
    ap last_by (tested_words (decimal v) (decimal f) (decimal t) (number_word v).one_word (number_word f).one_word (number_word t).one_word)
    ∙ tested_counts (decimal v) (decimal f) (decimal t) v f t (number_back v h.0) (number_back f h.1) (number_back t h.2)
last_read (More key) h = ap (option_map More) (key_back key h)
last_read (Spent key) h = ap (option_map Spent) (key_back key h)

one_last : (last : Last) → IsWithout 10 (last_line last)
one_last (Listed v t) = last_one v t
one_last (Tested v f t) =
    without_append 10 (codes "valid ") (decimal v ++ (codes " failing " ++ (decimal f ++ (codes " tried " ++ decimal t)))) (refl, (refl, (refl, (refl, (refl, (refl, tt))))))
    (without_append 10 (decimal v) (codes " failing " ++ (decimal f ++ (codes " tried " ++ decimal t))) (number_word v).one_line
    (without_append 10 (codes " failing ") (decimal f ++ (codes " tried " ++ decimal t)) (refl, (refl, (refl, (refl, (refl, (refl, (refl, (refl, (refl, tt)))))))))
    (without_append 10 (decimal f) (codes " tried " ++ decimal t) (number_word f).one_line
    (without_append 10 (codes " tried ") (decimal t) (refl, (refl, (refl, (refl, (refl, (refl, (refl, tt))))))) (number_word t).one_line))))
one_last (More key) = without_append 10 (codes "more ") (cut_text key) (refl, (refl, (refl, (refl, (refl, tt))))) (cut_word key).one_line
one_last (Spent key) = without_append 10 (codes "spent ") (cut_text key) (refl, (refl, (refl, (refl, (refl, (refl, tt)))))) (cut_word key).one_line

-- ---- rows

no_lasts : (tests : Bool) (rows : List Row) (lines : List (List ℕ)) → AreLinesOf tests rows lines → AreRows lines
no_lasts tests [] [] h = tt
no_lasts tests [] (line ∷ lines) h = absurd h
no_lasts tests (row ∷ rows) [] h = absurd h
no_lasts tests (row ∷ rows) (line ∷ lines) h = (h.0.one_line, h.0.no_last, no_lasts tests rows lines h.1)

read_back : (tests : Bool) (end : Bound) (before : List ℕ) (n : ℕ) (rows : List Row) (lines : List (List ℕ)) → AreLinesOf tests rows lines → Climbs end before (read_of rows).keys → rows_from tests end before n lines ≡ Ok (read_of rows)
read_back tests end before n [] [] h c = refl
read_back tests end before n [] (line ∷ lines) h c = absurd h
read_back tests end before n (row ∷ rows) [] h c = absurd h
read_back tests end before n (row ∷ rows) (line ∷ lines) h c =
    let first : row_after end before n (row_in tests line) ≡ Ok row =
    ap (row_after end before n) h.0.read ∙ ap (λ (b : Bool). if b then Ok row else bad n KeyOrder) c.0 in
    ap (λ (r : Checked Row). and_then r (λ row. and_then (rows_from tests end row.key (n + 1) lines) (λ rows. Ok (with_row row rows)))) first
    ∙ ap (λ (r : Checked Rows). and_then r (λ rows. Ok (with_row row rows))) (read_back tests end row.key (n + 1) rows lines h.1 c.1)

-- keys not above a bound aren't above a higher one
higher : (low high : Bound) (before : List ℕ) (keys : List (List ℕ)) → less high low ≡ false → Climbs low before keys → Climbs high before keys
higher low high before [] h c = tt
higher low high before (k ∷ ks) h c =
    let above : less (At before) (At k) ≡ true = and-left (less (At before) (At k)) (not (less low (At k))) c.0 in
    let under : not (less low (At k)) ≡ true = and-right (less (At before) (At k)) (not (less low (At k))) c.0 in
    let below : less high (At k) ≡ false = not_above (At k) low high (not-true (less low (At k)) under) h in
    (rw (above, below) refl, higher low high k ks h c.1)

keys_length : (rows : List Row) → length (read_of rows).keys ≡ length rows
keys_length [] = refl
keys_length (row ∷ rows) = ap suc (keys_length rows)

-- ---- what is written

reaches : (span : Span) (last : Last) (reach : Bound) → less (horizon last) reach ≡ false → less (end_of span) reach ≡ false → less (written_to span last) reach ≡ false
reaches span (Listed v t) reach p q = q
reaches span (Tested v f t) reach p q = q
reaches span (More key) reach p q = p
reaches span (Spent key) reach p q = p

-- ---- together

pub logged : {R : Type 0} → ListingLaw R
logged {R} es span workers rows lines last log h few =
    let keys = (read_of rows).keys in
    let upto = written_to span last in
    let climb : Climbs (end_of span) span.after keys =
    subst (λ (ks : List (List ℕ)). Climbs (end_of span) span.after ks) (sym h.keys_are)
    (higher upto (end_of span) span.after (valid_keys (within (At span.after) upto es)) h.inside (climbs es span.after span.after upto h.ascends (later_self span.after es))) in
    let written : AreWritten es span last keys = record { upto = upto; keys_are = h.keys_are; lowest = reaches span last; few = omega (arith, h.few, keys_length rows) } in
    traced span workers lines (last_line last) log (record {
      last = last;
      read = read_of rows;
      new = h.new;
      are_rows = no_lasts (is_test (Some last)) rows lines h.lines_are;
      one_line = one_last last;
      is_last = last_read last h.shown_last;
      are_read = read_back (is_test (Some last)) (end_of span) span.after 1 rows lines h.lines_are climb;
      accepts = honest es span workers last keys log h.new h.ascends written h.runs h.shown;
      closed = h.closed;
      says = h.says;
    }) few
