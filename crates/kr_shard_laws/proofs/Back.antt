-- What `shard` writes is read back.
use Rattle.std.proofs.Common.{◌≡◌, ℕ, ◌+◌, ◌-◌, ◌<◌, ◌≤◌, ◌^◌, Bool, true, false, List, [], ◌∷◌, ◌++◌, map, length, drop, take, refl, sym, ap, ◌∙◌, subst, arith, lit<, lit≤, append_assoc, append-nil, decimal, Option, Some, None}
use Rattle.std.specs.Prelude.{Ok, codes, flat_map, if◌then◌else◌, nat_lt, nat_le, option_and_then, option_map}
use Rattle.std.specs.Fmt.{digits}
use Rattle.std.specs.List.{before_first, after_first}
use Rattle.std.specs.Str.{bytes_eq}
use Rattle.std.specs.Str.Parse.{digits_value}
use Rattle.std.proofs.lemmas.Bool.Decides.{nat_tests}
use Rattle.std.proofs.lemmas.Fmt.{decimal_is_IsNumeral}
use Rattle.std.proofs.lemmas.Grind.{flat_map-append}
use Rattle.std.proofs.lemmas.List.{length-append, length-take-le}
use Rattle.std.proofs.lemmas.Slice.Eq.{bytes_eq-Decides}
use Rattle.kr_base.specs.Causes.{capped}
use Rattle.kr_base.specs.declared.entry.Entry.{Entry}
use Rattle.kr_base.specs.declared.span.Bound.{Bound}
use Rattle.kr_base.specs.declared.span.Bound.TheVariants.{At, End}
use Rattle.kr_base.specs.declared.span.Span.{Span}
use Rattle.kr_base.specs.Bounds.{less}
use Rattle.kr_base.specs.Cuts.{Before, cut_text}
use Rattle.kr_base.specs.Entries.{entries_in, is_within, within}
use Rattle.kr_base.specs.Parsing.{cut_of}
use Rattle.kr_mean.specs.Problem.{Problem}
use Rattle.kr_mean.specs.declared.mode.Mode.{Mode}
use Rattle.kr_mean.specs.declared.mode.Mode.TheVariants.{List as Listing}
use Rattle.kr_mean.specs.declared.row.Row.{Row}
use Rattle.kr_report.specs.Reports.{bytes_of, cut_report, last_key as last_key_in, lines, listing_answer, rows_in, spent_key, summary_text, whole_report}
use Rattle.kr_report.specs.Texts.{listed_text, more_text, row_text, spent_text, structure_text, verdict_text}
use Rattle.kr_text.specs.Splitting.{IsWithout, after_front, bound_of, ended, is_empty, is_space, lines_in, unended}
use Rattle.kr_shard.specs.Shards as reading
use Rattle.kr_shard.specs.Shards.{KeyedLine, ended_by, ending_in, ending_of, for_ok, from_of, key_in, last_key, row_key, shard_of, shard_with, span_between, span_of, spent_at, tried_of, with_lines, with_rows, with_span}
use Rattle.kr_shard.specs.Stages.{line_of}
use Rattle.kr_shard.specs.Texts.{first_text, from_text, to_text}
use Rattle.kr_shard.specs.declared.shard.Shard.{Shard}
use Rattle.kr_shard.proofs.Fronts.{drop_lines, lines_ended}
use Rattle.kr_shard_laws.specs.Law.{BackLaw, IsShardOf, tried_by}
use Rattle.kr_shard_laws.specs.Listings.{IsBound, IsCut, IsListing, IsSpan, MOST_ROWS, listing_in, shard_text}
use Rattle.kr_shard.specs.Files.{MOST_BYTES}
use Rattle.kr_shard_laws.proofs.Bytes.{AreLines, IsHigh, after_is, before_is, front_after, high_cut, high_number, lines_append, lines_back, nothing_unended, without_append, without_high}
use Rattle.kr_shard_laws.proofs.Rows.{AreListable, IsRun, are_listable, cut_back, few_rows, key_read, keyed, keyed_bytes, keyed_count, keyed_lines, rows_read, run_through, run_within, spent_after, through_listable, within_listable}

-- ---- the first line

high_from : (a : List ℕ) → IsCut a → IsHigh (from_text a)
unfolding IsHigh
high_from [] h = (lit≤ tt, (lit≤ tt, (lit≤ tt, (lit≤ tt, (lit≤ tt, tt)))))
high_from (n ∷ ns) h = high_cut (n ∷ ns) h.small

high_to : (b : Bound) → IsBound b → IsHigh (to_text b)
unfolding IsHigh
high_to End h = (lit≤ tt, (lit≤ tt, (lit≤ tt, tt)))
high_to (At cut) h = high_cut cut h.small

no_start : cut_of (codes "start") ≡ None
unfolding digits
no_start = refl

no_end : cut_of (codes "end") ≡ None
unfolding digits
no_end = refl

no_valid : cut_of (codes "valid") ≡ None
unfolding digits
no_valid = refl

no_spent : cut_of (codes "spent") ≡ None
unfolding digits
no_spent = refl

-- a cut's text isn't a word that is no cut
other_word : (cut word : List ℕ) → 0 < length cut → IsCut cut → cut_of word ≡ None → bytes_eq (cut_text cut) word ≡ false
other_word cut word some h none = go (bytes_eq (cut_text cut) word) refl
  where
    go : (t : Bool) → bytes_eq (cut_text cut) word ≡ t → t ≡ false
    go false is = refl
    go true is =
        let same : cut_text cut ≡ word = (bytes_eq-Decides (cut_text cut) word).0 is in
        let read : cut_of word ≡ Some cut = subst (λ (t : List ℕ). cut_of t ≡ Some cut) same (cut_back cut some h) in
        absurd (cc (read, none))

from_back : (a : List ℕ) → IsCut a → from_of (from_text a) ≡ Some a
from_back [] h = refl
from_back (n ∷ ns) h = rw (other_word (n ∷ ns) (codes "start") (omega arith) h no_start) (cut_back (n ∷ ns) (omega arith) h)

to_back : (a : List ℕ) (b : Bound) → IsBound b → less (At a) b ≡ true → bound_of (to_text b) ≡ Some b
unfolding less
to_back a End h below = refl
to_back [] (At []) h below = absurd (cc (below))
to_back (x ∷ xs) (At []) h below = absurd (cc (below))
to_back a (At (n ∷ ns)) h below = rw (other_word (n ∷ ns) (codes "end") (omega arith) h no_end) (ap (option_map At) (cut_back (n ∷ ns) (omega arith) h))

pub first_line : Span → List ℕ
first_line span = (codes "shard " ++ from_text span.after) ++ (codes " " ++ to_text span.upto)

span_back : (span : Span) → IsSpan span → span_of (first_line span) ≡ Some span
unfolding first_line
span_back span h =
    let a = span.after in
    let b = span.upto in
    let parts = without_high 32 (from_text a) (lit< tt) (high_from a h.after) in
    let from : from_of (before_first is_space (from_text a ++ 32 ∷ to_text b)) ≡ Some a = ap from_of (before_is 32 (from_text a) (to_text b) parts) ∙ from_back a h.after in
    let to : bound_of (after_first is_space (from_text a ++ 32 ∷ to_text b)) ≡ Some b = ap bound_of (after_is 32 (from_text a) (to_text b) parts) ∙ to_back a b h.upto h.below in
    ap (λ (o : Option (List ℕ)). span_between o (bound_of (after_first is_space (from_text a ++ 32 ∷ to_text b)))) from
    ∙ (ap (span_between (Some a)) to ∙ ap (λ (t : Bool). if t then Some (record { after = a; upto = b }) else None) h.below)

first_is_line : (span : Span) → IsSpan span → IsWithout 10 (first_line span)
unfolding first_line
first_is_line span h =
    without_append 10 (codes "shard " ++ from_text span.after) (codes " " ++ to_text span.upto)
    (without_append 10 (codes "shard ") (from_text span.after) (refl, (refl, (refl, (refl, (refl, (refl, tt)))))) (without_high 10 (from_text span.after) (lit< tt) (high_from span.after h.after)))
    (refl, without_high 10 (to_text span.upto) (lit< tt) (high_to span.upto h.upto))

-- ---- the last line

pub last_line : Option (List ℕ) → ℕ → ℕ → List ℕ
last_line None valid tried = codes "valid " ++ decimal (capped valid) ++ codes " tried " ++ decimal (capped tried)
last_line (Some key) valid tried = codes "spent " ++ cut_text key

-- the last line's text
unfoldable pub last_text : Option (List ℕ) → ℕ → ℕ → List ℕ
last_text None valid tried = listed_text valid tried
last_text (Some key) valid tried = spent_text key

last_is : (key : Option (List ℕ)) (valid tried : ℕ) → last_text key valid tried ≡ ended (last_line key valid tried)
unfolding last_text last_line
last_is None valid tried = refl
last_is (Some key) valid tried = refl

none_both : (b : Bool) (o : Option (List ℕ)) → o ≡ None → (if b then None else o) ≡ None
none_both true o h = refl
none_both false o h = h

row_none : (upto : Bound) (k line word : List ℕ) → before_first is_space line ≡ word → cut_of word ≡ None → row_key upto k line ≡ None
row_none upto k line word is none =
    let key : key_in upto k word ≡ None = ap (option_and_then (λ (j : List ℕ). if is_within (At k) upto j then Some j else None)) none in
    ap (λ (w : List ℕ). if is_empty (after_first is_space line) then None else key_in upto k w) is ∙ none_both (is_empty (after_first is_space line)) (key_in upto k word) key

-- it is no row
no_row : (key : Option (List ℕ)) (valid tried : ℕ) (upto : Bound) (k : List ℕ) → row_key upto k (last_line key valid tried) ≡ None
unfolding last_line
no_row None valid tried upto k = row_none upto k (codes "valid " ++ decimal (capped valid) ++ codes " tried " ++ decimal (capped tried)) (codes "valid") refl no_valid
no_row (Some key) valid tried upto k = row_none upto k (codes "spent " ++ cut_text key) (codes "spent") refl no_spent

pub capped_fits : (n : ℕ) → capped n < 2 ^ 64
capped_fits n = omega arith

last_is_line : (key : Option (List ℕ)) (valid tried : ℕ) → ((k : List ℕ) → key ≡ Some k → IsCut k) → IsWithout 10 (last_line key valid tried)
unfolding last_line
last_is_line None valid tried h =
    let v = without_high 10 (decimal (capped valid)) (lit< tt) (high_number (capped valid) (capped_fits valid)) in
    let t = without_high 10 (decimal (capped tried)) (lit< tt) (high_number (capped tried) (capped_fits tried)) in
    without_append 10 (codes "valid " ++ decimal (capped valid) ++ codes " tried ") (decimal (capped tried))
    (without_append 10 (codes "valid " ++ decimal (capped valid)) (codes " tried ")
    (without_append 10 (codes "valid ") (decimal (capped valid)) (refl, (refl, (refl, (refl, (refl, (refl, tt)))))) v)
    (refl, (refl, (refl, (refl, (refl, (refl, (refl, tt)))))))) t
last_is_line (Some key) valid tried h =
    let cut = h key refl in
    without_append 10 (codes "spent ") (cut_text key) (refl, (refl, (refl, (refl, (refl, (refl, tt)))))) (without_high 10 (cut_text key) (lit< tt) (high_cut key cut.small))

tried_back : (count tried : ℕ) → tried < 2 ^ 64 → count ≤ tried → tried_of count (decimal tried) ≡ Some (record { tried = tried; spent = None })
tried_back count tried fits h =
    let value : digits_value 10 (decimal tried) ≡ tried = (decimal_is_IsNumeral tried fits).1 in
    let same : bytes_eq (decimal (digits_value 10 (decimal tried))) (decimal tried) ≡ true = (bytes_eq-Decides (decimal (digits_value 10 (decimal tried))) (decimal tried)).1 (ap decimal value) in
    let below : nat_lt (digits_value 10 (decimal tried)) (2 ^ 64) ≡ true = rw value (grind (arith, nat_tests)) in
    let enough : nat_le count tried ≡ true = grind (arith, nat_tests) in
    rw (same, below, value, enough) refl

whole_back : (upto : Bound) (last : List ℕ) (valid tried : ℕ) → capped valid ≤ capped tried → ending_of upto last (capped valid) (last_line None valid tried) ≡ Some (record { tried = capped tried; spent = None })
unfolding last_line
whole_back upto last valid tried few =
    let rest = codes " tried " ++ decimal (capped tried) in
    let found : after_front (decimal (capped valid)) (decimal (capped valid) ++ codes " tried " ++ decimal (capped tried)) ≡ Some rest =
    ap (after_front (decimal (capped valid))) (append_assoc (decimal (capped valid)) (codes " tried ") (decimal (capped tried))) ∙ front_after (decimal (capped valid)) rest in
    ap (λ (o : Option (List ℕ)). option_and_then (λ (r : List ℕ). option_and_then (tried_of (capped valid)) (after_front (codes " tried ") r)) o) found
    ∙ tried_back (capped valid) (capped tried) (capped_fits tried) few

spent_back : (upto : Bound) (last : List ℕ) (count : ℕ) (key : List ℕ) (valid tried : ℕ) → (0 < length key) × IsCut key × Before last key × (less upto (At key) ≡ false)
    → ending_of upto last count (last_line (Some key) valid tried) ≡ Some (record { tried = 0; spent = Some key })
unfolding last_line
spent_back upto last count key valid tried k = ap spent_at (key_read upto last key k.0 k.1 k.2 k.3)

ending_back : (upto : Bound) (last : List ℕ) (count : ℕ) (key : Option (List ℕ)) (valid tried : ℕ) → count ≡ capped valid → count ≤ capped tried
    → ((k : List ℕ) → key ≡ Some k → (0 < length k) × IsCut k × Before last k × (less upto (At k) ≡ false))
    → ending_of upto last count (last_line key valid tried) ≡ Some (record { tried = tried_by key tried; spent = key })
ending_back upto last count None valid tried same few h =
    ap (λ (n : ℕ). ending_of upto last n (last_line None valid tried)) same ∙ whole_back upto last valid tried (subst (λ (n : ℕ). n ≤ capped tried) same few)
ending_back upto last count (Some key) valid tried same few h = spent_back upto last count key valid tried (h key refl)

-- ---- the listing of a span

row_some : (problem : Problem) (row : Row) → 1 ≤ length (row_text problem row)
row_some problem row =
    omega (arith, length-append (cut_text row.key ++ codes " " ++ verdict_text problem.program.table.headings row.verdict ++ structure_text problem row.structure) (codes "\n"))

lines_long : (problem : Problem) (rows : List Row) → length rows ≤ length (lines (map (row_text problem) rows))
lines_long problem [] = omega arith
lines_long problem (row ∷ rows) =
    let rest : length rows ≤ length (lines (map (row_text problem) rows)) = lines_long problem rows in
    omega (arith, row_some problem row, length-append (row_text problem row) (lines (map (row_text problem) rows)))

report_rows : (problem : Problem) (es : List (Entry Row)) (key : Option (List ℕ)) → (whole_report problem es key).rows ≡ map (row_text problem) (rows_in es)
report_rows problem es None = refl
report_rows problem es (Some key) = refl

report_last : (problem : Problem) (es : List (Entry Row)) (key : Option (List ℕ)) → problem.mode ≡ Listing → (whole_report problem es key).last ≡ last_text key (length (rows_in es)) (length es)
unfolding last_text
report_last problem es None mode = ap (λ (m : Mode). summary_text m (rows_in es) (length es)) mode
report_last problem es (Some key) mode = refl

-- a listing that isn't too long has all its rows
pub rows_few : (problem : Problem) (es : List (Entry Row)) → length (bytes_of (listing_answer problem MOST_ROWS es)) ≤ MOST_BYTES → length (rows_in es) ≤ MOST_BYTES
unfolding listing_answer
rows_few problem es h = go (nat_lt MOST_ROWS (length (rows_in es))) refl h
  where
    go : (t : Bool) → nat_lt MOST_ROWS (length (rows_in es)) ≡ t → length (bytes_of (if t then cut_report problem (take MOST_ROWS (rows_in es)) else whole_report problem es (spent_key es))) ≤ MOST_BYTES → length (rows_in es) ≤ MOST_BYTES
    go true is long =
        let many : MOST_ROWS < length (rows_in es) = grind (arith, nat_tests) in
        let rows = take MOST_ROWS (rows_in es) in
        let taken : length (take MOST_ROWS (rows_in es)) ≡ MOST_ROWS = length-take-le MOST_ROWS (rows_in es) (omega arith) in
        absurd (omega (arith, lines_long problem rows, length-append (lines (map (row_text problem) rows)) (more_text (last_key_in rows)), long))
    go false is long =
        let answer = whole_report problem es (spent_key es) in
        let same : length (lines answer.rows) ≡ length (lines (map (row_text problem) (rows_in es))) = ap (λ (rs : List (List ℕ)). length (lines rs)) (report_rows problem es (spent_key es)) in
        omega (arith, lines_long problem (rows_in es), length-append (lines answer.rows) answer.last, long, same)

pub listing_is : (problem : Problem) (es : List (Entry Row)) → length (rows_in es) ≤ MOST_ROWS → listing_answer problem MOST_ROWS es ≡ whole_report problem es (spent_key es)
unfolding listing_answer
listing_is problem es h =
    let no : nat_lt MOST_ROWS (length (rows_in es)) ≡ false = grind (arith, nat_tests) in
    ap (λ (t : Bool). if t then cut_report problem (take MOST_ROWS (rows_in es)) else whole_report problem es (spent_key es)) no

pub listing_bytes : (problem : Problem) (es : List (Entry Row)) → problem.mode ≡ Listing → length (rows_in es) ≤ MOST_ROWS
    → bytes_of (listing_answer problem MOST_ROWS es) ≡ lines (map (row_text problem) (rows_in es)) ++ last_text (spent_key es) (length (rows_in es)) (length es)
listing_bytes problem es mode h =
    let answer = whole_report problem es (spent_key es) in
    ap bytes_of (listing_is problem es h)
    ∙ (ap (λ (rs : List (List ℕ)). lines rs ++ answer.last) (report_rows problem es (spent_key es))
    ∙ ap (λ (t : List ℕ). lines (map (row_text problem) (rows_in es)) ++ t) (report_last problem es (spent_key es) mode))

-- ---- the shard that is read

unfoldable pub made : Problem → Span → List (Entry Row) → Shard
made problem span es = shard_with span (keyed problem es) (record { tried = tried_by (spent_key es) (length es); spent = spent_key es })

pub entries_listable : (problem : Problem) (es : List (Entry Row)) (a b : Bound) → IsListing problem es → AreListable problem (entries_in a b es)
entries_listable problem es a b h = through_listable problem (within a b es) (within_listable problem a b es (are_listable problem es h.listable))

entries_run : (problem : Problem) (es : List (Entry Row)) (after : List ℕ) (upto : Bound) → IsListing problem es → IsRun upto after (entries_in (At after) upto es)
entries_run problem es after upto h = run_through upto after (within (At after) upto es) (run_within after upto es h.ascends)

module _ (problem : Problem) (es : List (Entry Row)) (span : Span) (listing : IsListing problem es) (is : IsSpan span) (few : length (rows_in (entries_in (At span.after) span.upto es)) ≤ MOST_BYTES) where
  own : List (Entry Row)
  own = entries_in (At span.after) span.upto es

  rows : List KeyedLine
  rows = keyed problem own

  last : List ℕ
  last = last_line (spent_key own) (length (rows_in own)) (length own)

  after_first_line : List (List ℕ)
  after_first_line = map line_of rows ++ last ∷ []

  spent_here : (k : List ℕ) → spent_key own ≡ Some k → (0 < length k) × IsCut k × Before (last_key span.after rows) k × (less span.upto (At k) ≡ false)
  unfolding own rows
  spent_here k e = spent_after problem span.upto (within (At span.after) span.upto es) span.after k (entries_listable problem es (At span.after) span.upto listing) (entries_run problem es span.after span.upto listing) e

  text_is : shard_text problem es span ≡ flat_map ended (first_line span ∷ after_first_line)
  unfolding own rows last after_first_line first_line
  text_is =
      let bytes : bytes_of (listing_in problem es span.after span.upto) ≡ lines (map (row_text problem) (rows_in own)) ++ last_text (spent_key own) (length (rows_in own)) (length own) =
      listing_bytes problem own listing.mode (omega (arith, few)) in
      let front : lines (map (row_text problem) (rows_in own)) ≡ flat_map ended (map line_of rows) =
      sym (keyed_bytes problem own (entries_listable problem es (At span.after) span.upto listing)) ∙ sym (lines_ended rows) in
      let end : last_text (spent_key own) (length (rows_in own)) (length own) ≡ flat_map ended (last ∷ []) =
      last_is (spent_key own) (length (rows_in own)) (length own) ∙ sym (append-nil (ended last)) in
      ap (λ (t : List ℕ). first_text span ++ t)
      (bytes ∙ (ap (λ (t : List ℕ). t ++ last_text (spent_key own) (length (rows_in own)) (length own)) front
      ∙ (ap (λ (t : List ℕ). flat_map ended (map line_of rows) ++ t) end ∙ sym (flat_map-append ended (map line_of rows) (last ∷ [])))))

  are_lines : AreLines (first_line span ∷ after_first_line)
  unfolding own rows last after_first_line AreLines
  are_lines = (
    first_is_line span is,
    lines_append (map line_of rows) (last ∷ []) (keyed_lines problem own (entries_listable problem es (At span.after) span.upto listing))
        (last_is_line (spent_key own) (length (rows_in own)) (length own) (λ k e. (spent_here k e).1), tt),
  )

  rows_back : reading.rows_in span.upto after_first_line span.after ≡ rows
  unfolding own rows last after_first_line
  rows_back =
      rows_read problem span.upto last own span.after (entries_listable problem es (At span.after) span.upto listing) (entries_run problem es span.after span.upto listing)
      (λ k. no_row (spent_key own) (length (rows_in own)) (length own) span.upto k)

  ending_is : ending_in span.upto (last_key span.after rows) (length rows) (drop (length rows) after_first_line) [] ≡ Ok (record { tried = tried_by (spent_key own) (length own); spent = spent_key own })
  unfolding own rows last after_first_line
  ending_is =
      let count : length rows ≡ length (rows_in own) = keyed_count problem own in
      let less_rows : length (rows_in own) ≤ length own = few_rows own in
      let found : ending_of span.upto (last_key span.after rows) (length rows) last ≡ Some (record { tried = tried_by (spent_key own) (length own); spent = spent_key own }) =
      ending_back span.upto (last_key span.after rows) (length rows) (spent_key own) (length (rows_in own)) (length own)
      (omega (arith, count, few)) (omega (arith, count, few, less_rows)) spent_here in
      ap (λ (ls : List (List ℕ)). ending_in span.upto (last_key span.after rows) (length rows) ls []) (drop_lines rows after_first_line (last ∷ []) refl)
      ∙ ap (λ o. ended_by o [] [] (length rows)) found

  pub back : shard_of (shard_text problem es span) ≡ Ok (made problem span (entries_in (At span.after) span.upto es))
  unfolding own rows shard_of made
  back =
      let text = shard_text problem es span in
      let lines_are : lines_in text ≡ first_line span ∷ after_first_line = ap lines_in text_is ∙ lines_back (first_line span ∷ after_first_line) are_lines in
      let nothing : unended text ≡ [] = ap unended text_is ∙ nothing_unended (first_line span ∷ after_first_line) are_lines in
      ap (λ (ls : List (List ℕ)). with_lines ls (unended text)) lines_are
      ∙ (ap (with_span (span_of (first_line span)) after_first_line) nothing
      ∙ (ap (λ (o : Option Span). with_span o after_first_line []) (span_back span is)
      ∙ (ap (λ (rs : List KeyedLine). with_rows span rs after_first_line []) rows_back
      ∙ ap (for_ok (shard_with span rows)) ending_is)))

-- a text that isn't too long has few rows
pub text_few : (problem : Problem) (es : List (Entry Row)) (span : Span) → length (shard_text problem es span) ≤ MOST_BYTES → length (rows_in (entries_in (At span.after) span.upto es)) ≤ MOST_BYTES
text_few problem es span h =
    rows_few problem (entries_in (At span.after) span.upto es) (omega (arith, h, length-append (first_text span) (bytes_of (listing_in problem es span.after span.upto))))

-- ---- the law

pub made_is : (problem : Problem) (span : Span) (es : List (Entry Row)) → AreListable problem es → IsShardOf problem span es (made problem span es)
unfolding made
made_is problem span es h = record {
  span_is = refl;
  bytes = keyed_bytes problem es h;
  count = keyed_count problem es;
  tried = refl;
  spent = refl;
}

pub back_law : BackLaw
back_law problem es span listing is short =
    let own = entries_in (At span.after) span.upto es in (
      made problem span (entries_in (At span.after) span.upto es),
      back problem es span listing is (text_few problem es span short),
      made_is problem span (entries_in (At span.after) span.upto es) (entries_listable problem es (At span.after) span.upto listing),
    )
