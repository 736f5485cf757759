-- Shards of spans that adjoin give the one listing.
use Rattle.std.proofs.Common.{◌≡◌, ℕ, ◌+◌, ◌-◌, ◌*◌, ◌<◌, ◌≤◌, ◌^◌, Bool, true, false, List, [], ◌∷◌, ◌++◌, map, length, min, refl, sym, ap, ◌∙◌, subst, arith, decimal, Option, Some, None}
use Rattle.std.specs.Prelude.{Result, Ok, codes, filter, if◌then◌else◌, nat_lt}
use Rattle.std.specs.List.{AllByRecursion, sum_by}
use Rattle.kr_base.specs.Causes.{capped}
use Rattle.kr_base.specs.declared.entry.Mark.{Mark}
use Rattle.kr_base.specs.declared.entry.Mark.TheVariants.{Valid, Invalid, Spent}
use Rattle.kr_base.specs.declared.entry.Entry.{Entry}
use Rattle.kr_base.specs.declared.span.Bound.{Bound}
use Rattle.kr_base.specs.declared.span.Bound.TheVariants.{At, End}
use Rattle.kr_base.specs.declared.span.Span.{Span}
use Rattle.kr_base.specs.Entries.{entries_in}
use Rattle.kr_mean.specs.Problem.{Problem}
use Rattle.kr_mean.specs.declared.mode.Mode.TheVariants.{List as Listing}
use Rattle.kr_mean.specs.declared.row.Row.{Row}
use Rattle.kr_mean.specs.declared.kind.Verdict.{Verdict}
use Rattle.kr_report.specs.Reports.{Answer, bytes_of, failing_in, is_failing, lines, listing_answer, rows_in, rows_of_mark, spent_key, status_of, whole_report}
use Rattle.kr_report.specs.Texts.{listed_text, row_text, spent_text}
use Rattle.kr_shard.specs.Shards.{shard_of}
use Rattle.kr_shard.specs.declared.shard.Shard.{Shard}
use Rattle.kr_shard.specs.Merging.{in_order, numbered, spent_in, through_spent, tried_in}
use Rattle.kr_shard.specs.declared.order.Given.{Given}
use Rattle.kr_shard.specs.Answers.{bytes_in, count_in, joined_answer, joined_by}
use Rattle.kr_shard_laws.specs.Listings.{IsListing, IsRowAt, IsSpan, MOST_ROWS, listing_in, shard_text}
use Rattle.kr_shard.specs.Files.{MOST_BYTES}
use Rattle.kr_shard_laws.specs.Spans.{Adjoin, IsInAnyOrder}
use Rattle.kr_shard_laws.specs.Theorem.{ComesTo, ShardLaw}
use Rattle.kr_shard_laws.proofs.Rows.{AreListable}
use Rattle.kr_shard_laws.proofs.Back.{back, entries_listable, last_text, listing_bytes, listing_is, text_few}
use Rattle.kr_shard_laws.proofs.Sorted.{in_order_is, no_first_fault}
use Rattle.kr_shard_laws.proofs.Parts.{AddUp, HasFew, add_up, few_in_all, of_span, shard_made, span_made}

-- ---- what holds of each of a list holds of each in any order

module _ {A : Type 0} (P : A → Type 0) where
  all_insert : (x : A) (before after : List A) → P x → AllByRecursion P (before ++ after) → AllByRecursion P (before ++ x ∷ after)
  all_insert x [] after here h = (here, h)
  all_insert x (b ∷ bs) after here h = (h.0, all_insert x bs after here h.1)

  all_without : (x : A) (before after : List A) → AllByRecursion P (before ++ x ∷ after) → P x × AllByRecursion P (before ++ after)
  all_without x [] after h = (h.0, h.1)
  all_without x (b ∷ bs) after h = let rest = all_without x bs after h.1 in (rest.0, (h.0, rest.1))

  all_mixed : (xs ys : List A) → IsInAnyOrder xs ys → AllByRecursion P xs → AllByRecursion P ys
  all_mixed [] ys mix h = subst (AllByRecursion P) (sym mix) tt
  all_mixed (x ∷ xs) ys mix h = subst (AllByRecursion P) (sym mix.2) (all_insert x mix.0 mix.1 h.0 (all_mixed xs (mix.0 ++ mix.1) mix.3 h.1))

  all_back : (xs ys : List A) → IsInAnyOrder xs ys → AllByRecursion P ys → AllByRecursion P xs
  all_back [] ys mix h = tt
  all_back (x ∷ xs) ys mix h =
      let rest = all_without x mix.0 mix.1 (subst (AllByRecursion P) mix.2 h) in
      (rest.0, all_back xs (mix.0 ++ mix.1) mix.3 rest.1)

all_spans : (from : Bound) (spans : List Span) (to : Bound) → Adjoin from spans to → AllByRecursion IsSpan spans
all_spans from [] to h = tt
all_spans from (s ∷ ss) to h = (h.1, all_spans s.upto ss to h.2)

-- ---- each is read

module _ (problem : Problem) (es : List (Entry Row)) (listing : IsListing problem es) where
  each_few : (given : List Span) → AllByRecursion (λ (s : Span). length (shard_text problem es s) ≤ MOST_BYTES) given → AllByRecursion (HasFew problem es listing) given
  unfolding HasFew of_span
  each_few [] h = tt
  each_few (s ∷ ss) h = (text_few problem es s h.0, each_few ss h.1)

  each_read : (given : List Span) → AllByRecursion IsSpan given → AllByRecursion (HasFew problem es listing) given
      → map shard_of (map (shard_text problem es) given) ≡ map Ok (map (shard_made problem es listing) given)
  unfolding HasFew of_span shard_made
  each_read [] h few = refl
  each_read (s ∷ ss) h few =
      let own : shard_of (shard_text problem es s) ≡ Ok (shard_made problem es listing s) = back problem es s listing h.0 few.0 in
      let rest = each_read ss h.1 few.1 in
      ap (λ (r : Result Shard ℕ). r ∷ map shard_of (map (shard_text problem es) ss)) own ∙ ap (λ (rs : List (Result Shard ℕ)). Ok (shard_made problem es listing s) ∷ rs) rest

  -- ---- the answers

  listed_same : (c d t u : ℕ) → c ≡ d → capped t ≡ capped u → listed_text c t ≡ listed_text d u
  listed_same c d t u p q =
      ap (λ (n : ℕ). codes "valid " ++ decimal (capped n) ++ codes " tried " ++ decimal (capped t) ++ codes "\n") p
      ∙ ap (λ (n : ℕ). codes "valid " ++ decimal (capped d) ++ codes " tried " ++ decimal n ++ codes "\n") q

  joined_bytes : (gs : List Given) (all : List (Entry Row)) → AddUp problem gs all → length (rows_in all) ≤ MOST_ROWS
      → bytes_of (joined_answer gs) ≡ bytes_of (listing_answer problem MOST_ROWS all)
  unfolding joined_answer last_text
  joined_bytes gs all sums few =
      ap (λ (o : Option (List ℕ)). bytes_of (joined_by (through_spent gs) o)) sums.key
      ∙ (go (spent_key all) refl ∙ sym (listing_bytes problem all listing.mode few))
    where
      go : (o : Option (List ℕ)) → spent_key all ≡ o → bytes_of (joined_by (through_spent gs) o) ≡ lines (map (row_text problem) (rows_in all)) ++ last_text o (length (rows_in all)) (length all)
      go None none =
          ap (λ (t : List ℕ). t ++ listed_text (sum_by count_in (through_spent gs)) (sum_by tried_in (through_spent gs))) sums.bytes
          ∙ ap (λ (t : List ℕ). lines (map (row_text problem) (rows_in all)) ++ t)
          (listed_same (sum_by count_in (through_spent gs)) (length (rows_in all)) (sum_by tried_in (through_spent gs)) (length all) (sums.count none) (sums.tried none))
      go (Some k) some = ap (λ (t : List ℕ). t ++ spent_text k) sums.bytes

  none_failing : (all : List (Entry Row)) → AreListable problem all → failing_in (rows_in all) ≡ []
  unfolding AreListable
  none_failing [] h = refl
  none_failing (e ∷ all) h = go e.mark h.0.row (none_failing all h.1)
    where
      go : (m : Mark Row) → IsRowAt problem e.key m → failing_in (rows_in all) ≡ [] → failing_in (rows_of_mark m ++ rows_in all) ≡ []
      go (Valid row) at rest = ap (λ (v : Option Verdict). if is_failing v then row ∷ failing_in (rows_in all) else failing_in (rows_in all)) at.1 ∙ rest
      go Invalid at rest = rest
      go Spent at rest = rest

  joined_status : (gs : List Given) (all : List (Entry Row)) → AddUp problem gs all → AreListable problem all → length (rows_in all) ≤ MOST_ROWS
      → (joined_answer gs).status ≡ (listing_answer problem MOST_ROWS all).status
  unfolding joined_answer
  joined_status gs all sums listable few =
      ap (λ (o : Option (List ℕ)). (joined_by (through_spent gs) o).status) sums.key
      ∙ (go (spent_key all) ∙ sym (ap (λ (a : Answer). a.status) (listing_is problem all few)))
    where
      go : (o : Option (List ℕ)) → (joined_by (through_spent gs) o).status ≡ (whole_report problem all o).status
      go None = ap (λ (rows : List Row). if nat_lt 0 (length rows) then 1 else 0) (sym (none_failing all listable))
      go (Some k) = refl

pub shard_law : ShardLaw
shard_law problem es spans given after upto listing some most h mix short =
    let ordered = in_order (numbered 0 (map (shard_made problem es listing) given)) in
    let all = entries_in (At after) upto es in
    let few_given = each_few problem es listing given short in
    let few = few_in_all problem es listing (At after) spans upto h (all_back (HasFew problem es listing) spans given mix few_given) in
    let rows : length (rows_in (entries_in (At after) upto es)) ≤ MOST_ROWS = omega (arith, few, most) in
    let are = in_order_is (shard_made problem es listing) (span_made problem es listing) (At after) spans given upto h mix in
    let sums = add_up problem es listing (in_order (numbered 0 (map (shard_made problem es listing) given))) (At after) spans upto are h in
    record {
      shards = map (shard_made problem es listing) given;
      are = each_read problem es listing given (all_mixed IsSpan spans given mix (all_spans (At after) spans upto h)) few_given;
      adjoin = no_first_fault (shard_made problem es listing) (span_made problem es listing) ordered (At after) spans upto are h;
      bytes = joined_bytes problem es listing ordered all sums rows;
      status = joined_status problem es listing ordered all sums (entries_listable problem es (At after) upto listing) rows;
    }
