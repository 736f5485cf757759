-- Entries of spans that adjoin, counted and written part by part.
use Rattle.std.proofs.Common.{◌≡◌, ℕ, suc, ◌+◌, ◌-◌, ◌*◌, ◌<◌, ◌≤◌, ◌^◌, Bool, true, false, ◌&&◌, not, List, [], ◌∷◌, ◌++◌, map, length, min, refl, sym, ap, ◌∙◌, subst, arith, append_assoc, append-nil, Option, Some, None, is_some}
use Rattle.std.specs.Prelude.{flat_map, filter, if◌then◌else◌}
use Rattle.std.specs.List.{AllByRecursion, sum_by}
use Rattle.std.proofs.lemmas.Grind.{flat_map-append}
use Rattle.std.proofs.lemmas.List.{length-append, map-append}
use Rattle.std.proofs.lemmas.List.Sums.{sum_by-cons}
use Rattle.kr_base.specs.Causes.{capped}
use Rattle.kr_base.specs.declared.entry.Mark.{Mark}
use Rattle.kr_base.specs.declared.entry.Mark.TheVariants.{Valid, Invalid, Spent}
use Rattle.kr_base.specs.declared.entry.Entry.{Entry}
use Rattle.kr_base.specs.declared.span.Bound.{Bound}
use Rattle.kr_base.specs.declared.span.Bound.TheVariants.{At, End}
use Rattle.kr_base.specs.declared.span.Span.{Span}
use Rattle.kr_base.specs.Bounds.{less}
use Rattle.kr_base.specs.Entries.{Ascends, NoneSpent, entries_in, is_spent, is_within, through_spent as through_entries, within}
use Rattle.kr_base.proofs.Spans.{resumption, within_two}
use Rattle.kr_mean.specs.Problem.{Problem}
use Rattle.kr_mean.specs.declared.row.Row.{Row}
use Rattle.kr_report.specs.Reports.{lines, rows_in, rows_of_mark, spent_key, spent_key_of}
use Rattle.kr_report.specs.Texts.{row_text}
use Rattle.kr_shard.specs.declared.shard.Shard.{Shard}
use Rattle.kr_shard.specs.Shards.{row_bytes, shard_with}
use Rattle.kr_shard.specs.Merging.{or_else, spent_in, through_spent, tried_in}
use Rattle.kr_shard.specs.declared.order.Given.{Given}
use Rattle.kr_shard.specs.Answers.{bytes_in, count_in}
use Rattle.kr_shard_laws.specs.Spans.{Adjoin}
use Rattle.kr_shard_laws.specs.Listings.{IsListing}
use Rattle.kr_shard.specs.Files.{MOST_BYTES}
use Rattle.kr_shard_laws.proofs.Rows.{AreListable, keyed, keyed_bytes, keyed_count}
use Rattle.kr_shard_laws.proofs.Back.{entries_listable, made}
use Rattle.kr_shard_laws.specs.Law.{tried_by}
use Rattle.kr_shard_laws.proofs.Sorted.{ends_above, other_way, shards_of}

-- ---- entries, one list after another

rows_append : (es fs : List (Entry Row)) → rows_in (es ++ fs) ≡ rows_in es ++ rows_in fs
rows_append es fs = flat_map-append (λ (e : Entry Row). rows_of_mark e.mark) es fs

lines_append : (problem : Problem) (es fs : List (Entry Row))
    → lines (map (row_text problem) (rows_in (es ++ fs))) ≡ lines (map (row_text problem) (rows_in es)) ++ lines (map (row_text problem) (rows_in fs))
lines_append problem es fs =
    ap (λ (rs : List Row). lines (map (row_text problem) rs)) (rows_append es fs)
    ∙ (ap lines (map-append (row_text problem) (rows_in es) (rows_in fs))
    ∙ flat_map-append (λ (row : List ℕ). row) (map (row_text problem) (rows_in es)) (map (row_text problem) (rows_in fs)))

key_append : (es fs : List (Entry Row)) → spent_key es ≡ None → spent_key (es ++ fs) ≡ spent_key fs
key_append [] fs h = refl
key_append (e ∷ es) fs h = go e.mark h (λ none. key_append es fs none)
  where
    go : (m : Mark Row) → spent_key_of e.key m (spent_key es) ≡ None → (spent_key es ≡ None → spent_key (es ++ fs) ≡ spent_key fs) → spent_key_of e.key m (spent_key (es ++ fs)) ≡ spent_key fs
    go (Valid row) none rest = rest none
    go Invalid none rest = rest none
    go Spent none rest = absurd (cc (none))

none_spent : (es : List (Entry Row)) → spent_key es ≡ None → NoneSpent es
none_spent [] h = tt
none_spent (e ∷ es) h = go e.mark h (λ none. none_spent es none)
  where
    go : (m : Mark Row) → spent_key_of e.key m (spent_key es) ≡ None → (spent_key es ≡ None → NoneSpent es) → (is_spent m ≡ false) × NoneSpent es
    go (Valid row) none rest = (refl, rest none)
    go Invalid none rest = (refl, rest none)
    go Spent none rest = absurd (cc (none))

-- the first spent one ends them
spent_stops : (es fs : List (Entry Row)) (k : List ℕ) → spent_key (through_entries es) ≡ Some k → through_entries (es ++ fs) ≡ through_entries es
spent_stops [] fs k h = absurd (cc (h))
spent_stops (e ∷ es) fs k h = ap (λ (l : List (Entry Row)). e ∷ l) (go e.mark h (λ some. spent_stops es fs k some))
  where
    go : (m : Mark Row) → spent_key_of e.key m (spent_key (if is_spent m then [] else through_entries es)) ≡ Some k → (spent_key (through_entries es) ≡ Some k → through_entries (es ++ fs) ≡ through_entries es)
        → (if is_spent m then [] else through_entries (es ++ fs)) ≡ (if is_spent m then [] else through_entries es)
    go (Valid row) some rest = rest some
    go Invalid some rest = rest some
    go Spent some rest = refl

none_within : (b : Bound) (es : List (Entry Row)) → within b b es ≡ []
none_within b [] = refl
none_within b (e ∷ es) = go (less b (At e.key)) (none_within b es)
  where
    go : (t : Bool) → within b b es ≡ [] → (if t && not t then e ∷ within b b es else within b b es) ≡ []
    go true rest = rest
    go false rest = rest

-- shards give these entries
pub record AddUp (problem : Problem) (gs : List Given) (all : List (Entry Row)) : Type 0 where
  pub bytes : lines (map bytes_in (through_spent gs)) ≡ lines (map (row_text problem) (rows_in all))
  pub key : spent_in gs ≡ spent_key all
  pub count : spent_key all ≡ None → sum_by count_in (through_spent gs) ≡ length (rows_in all)
  pub tried : spent_key all ≡ None → capped (sum_by tried_in (through_spent gs)) ≡ capped (length all)

-- ---- of the whole and of a first part

module _ (problem : Problem) (es : List (Entry Row)) (listing : IsListing problem es) where
  unfoldable pub of_span : Span → List (Entry Row)
  of_span s = entries_in (At s.after) s.upto es

  whole_none : (s : Span) (ss : List Span) (to : Bound) → less (At s.after) s.upto ≡ true → Adjoin s.upto ss to → spent_key (of_span s) ≡ None
      → entries_in (At s.after) to es ≡ of_span s ++ entries_in s.upto to es
  unfolding of_span
  whole_none s ss to below h none =
      sym (resumption es (At s.after) s.upto to listing.ascends (other_way (At s.after) s.upto below) (ends_above s.upto ss to h) (none_spent (entries_in (At s.after) s.upto es) none))

  whole_spent : (s : Span) (ss : List Span) (to : Bound) (k : List ℕ) → less (At s.after) s.upto ≡ true → Adjoin s.upto ss to → spent_key (of_span s) ≡ Some k
      → entries_in (At s.after) to es ≡ of_span s
  unfolding of_span
  whole_spent s ss to k below h some =
      ap through_entries (sym (within_two (At s.after) s.upto to es listing.ascends (other_way (At s.after) s.upto below) (ends_above s.upto ss to h)))
      ∙ spent_stops (within (At s.after) s.upto es) (within s.upto to es) k some

  -- ---- how many rows

  unfoldable pub HasFew : Span → Type 0
  HasFew s = length (rows_in (of_span s)) ≤ MOST_BYTES

  pub few_in_all : (from : Bound) (spans : List Span) (to : Bound) → Adjoin from spans to → AllByRecursion HasFew spans → length (rows_in (entries_in from to es)) ≤ length spans * MOST_BYTES
  unfolding HasFew
  few_in_all from [] to h few =
      let none : entries_in from to es ≡ [] = ap (λ (b : Bound). entries_in from b es) (sym h) ∙ ap through_entries (none_within from es) in
      let n : length (rows_in (entries_in from to es)) ≡ 0 = ap (λ (l : List (Entry Row)). length (rows_in l)) none in
      omega (arith, n)
  few_in_all from (s ∷ ss) to h few =
      subst (λ (b : Bound). length (rows_in (entries_in b to es)) ≤ length (s ∷ ss) * MOST_BYTES) h.0
      (go (spent_key (of_span s)) refl (few_in_all s.upto ss to h.2 few.1))
    where
      go : (o : Option (List ℕ)) → spent_key (of_span s) ≡ o → length (rows_in (entries_in s.upto to es)) ≤ length ss * MOST_BYTES → length (rows_in (entries_in (At s.after) to es)) ≤ length (s ∷ ss) * MOST_BYTES
      go None none rest =
          let n : length (rows_in (entries_in (At s.after) to es)) ≡ length (rows_in (of_span s)) + length (rows_in (entries_in s.upto to es)) =
          ap (λ (l : List (Entry Row)). length (rows_in l)) (whole_none s ss to h.1.below h.2 none)
          ∙ (ap length (rows_append (of_span s) (entries_in s.upto to es)) ∙ length-append (rows_in (of_span s)) (rows_in (entries_in s.upto to es))) in
          let own : length (rows_in (of_span s)) ≤ MOST_BYTES = few.0 in
          omega (arith, n, own, rest)
      go (Some k) some rest =
          let n : length (rows_in (entries_in (At s.after) to es)) ≡ length (rows_in (of_span s)) = ap (λ (l : List (Entry Row)). length (rows_in l)) (whole_spent s ss to k h.1.below h.2 some) in
          let own : length (rows_in (of_span s)) ≤ MOST_BYTES = few.0 in
          omega (arith, n, own, rest)

  -- ---- what shards give

  unfoldable pub shard_made : Span → Shard
  shard_made s = made problem s (of_span s)

  pub span_made : (s : Span) → (shard_made s).span ≡ s
  unfolding shard_made made
  span_made s = refl

  listable_in : (s : Span) → AreListable problem (of_span s)
  unfolding of_span
  listable_in s = entries_listable problem es (At s.after) s.upto listing

  bytes_here : (g : Given) (s : Span) → g.shard ≡ shard_made s → bytes_in g ≡ lines (map (row_text problem) (rows_in (of_span s)))
  unfolding shard_made made
  bytes_here g s e = ap (λ (x : Shard). x.rows.bytes) e ∙ keyed_bytes problem (of_span s) (listable_in s)

  count_here : (g : Given) (s : Span) → g.shard ≡ shard_made s → count_in g ≡ length (rows_in (of_span s))
  unfolding shard_made made
  count_here g s e = ap (λ (x : Shard). x.rows.count) e ∙ keyed_count problem (of_span s)

  spent_here : (g : Given) (s : Span) → g.shard ≡ shard_made s → g.shard.spent ≡ spent_key (of_span s)
  unfolding shard_made made
  spent_here g s e = ap (λ (x : Shard). x.spent) e

  tried_here : (g : Given) (s : Span) → g.shard ≡ shard_made s → spent_key (of_span s) ≡ None → tried_in g ≡ capped (length (of_span s))
  unfolding shard_made made
  tried_here g s e none =
      ap (λ (o : Option (List ℕ)). if is_some o then 0 else g.shard.tried) (spent_here g s e ∙ none)
      ∙ (ap (λ (x : Shard). x.tried) e ∙ ap (λ (o : Option (List ℕ)). tried_by o (length (of_span s))) none)

  -- one that isn't spent, and those after it
  add_one : (g : Given) (gs : List Given) (s : Span) (rest all : List (Entry Row)) → g.shard ≡ shard_made s → spent_key (of_span s) ≡ None → all ≡ of_span s ++ rest → AddUp problem gs rest → AddUp problem (g ∷ gs) all
  add_one g gs s rest all e none is later =
      let own = of_span s in
      let no_key : g.shard.spent ≡ None = spent_here g s e ∙ none in
      let through : through_spent (g ∷ gs) ≡ g ∷ through_spent gs = ap (λ (o : Option (List ℕ)). g ∷ (if is_some o then [] else through_spent gs)) no_key in
      let key : spent_key all ≡ spent_key rest = ap spent_key is ∙ key_append (of_span s) rest none in
      let rows : length (rows_in all) ≡ length (rows_in (of_span s)) + length (rows_in rest) =
      ap (λ (l : List (Entry Row)). length (rows_in l)) is ∙ (ap length (rows_append (of_span s) rest) ∙ length-append (rows_in (of_span s)) (rows_in rest)) in
      let size : length all ≡ length (of_span s) + length rest = ap length is ∙ length-append (of_span s) rest in
      let counts : sum_by count_in (through_spent (g ∷ gs)) ≡ count_in g + sum_by count_in (through_spent gs) = ap (sum_by count_in) through ∙ sum_by-cons count_in g (through_spent gs) in
      let tries : sum_by tried_in (through_spent (g ∷ gs)) ≡ tried_in g + sum_by tried_in (through_spent gs) = ap (sum_by tried_in) through ∙ sum_by-cons tried_in g (through_spent gs) in
      record {
        bytes =
            ap (λ (l : List Given). lines (map bytes_in l)) through
            ∙ (ap (λ (t : List ℕ). t ++ lines (map bytes_in (through_spent gs))) (bytes_here g s e)
            ∙ (ap (λ (t : List ℕ). lines (map (row_text problem) (rows_in (of_span s))) ++ t) later.bytes
            ∙ (sym (lines_append problem (of_span s) rest) ∙ ap (λ (l : List (Entry Row)). lines (map (row_text problem) (rows_in l))) (sym is))));
        key = ap (λ (o : Option (List ℕ)). or_else o (spent_in gs)) no_key ∙ (later.key ∙ sym key);
        count = λ none_all.
            let b : sum_by count_in (through_spent gs) ≡ length (rows_in rest) = later.count (sym key ∙ none_all) in
            omega (arith, counts, count_here g s e, b, rows);
        tried = λ none_all.
            let b : capped (sum_by tried_in (through_spent gs)) ≡ capped (length rest) = later.tried (sym key ∙ none_all) in
            capped_sum (sum_by tried_in (through_spent (g ∷ gs))) (tried_in g) (sum_by tried_in (through_spent gs)) (length all) (length (of_span s)) (length rest) tries (tried_here g s e none) b size;
      }
    where
      capped_sum : (whole a b all x y : ℕ) → whole ≡ a + b → a ≡ capped x → capped b ≡ capped y → all ≡ x + y → capped whole ≡ capped all
      capped_sum whole a b all x y p q r t = omega arith

  -- a spent one
  add_last : (g : Given) (gs : List Given) (s : Span) (k : List ℕ) (all : List (Entry Row)) → g.shard ≡ shard_made s → spent_key (of_span s) ≡ Some k → all ≡ of_span s → AddUp problem (g ∷ gs) all
  add_last g gs s k all e some is =
      let key : g.shard.spent ≡ Some k = spent_here g s e ∙ some in
      let through : through_spent (g ∷ gs) ≡ g ∷ [] = ap (λ (o : Option (List ℕ)). g ∷ (if is_some o then [] else through_spent gs)) key in
      let key_is : spent_key all ≡ Some k = ap spent_key is ∙ some in
      record {
        bytes =
            ap (λ (l : List Given). lines (map bytes_in l)) through
            ∙ (append-nil (bytes_in g) ∙ (bytes_here g s e ∙ ap (λ (l : List (Entry Row)). lines (map (row_text problem) (rows_in l))) (sym is)));
        key = ap (λ (o : Option (List ℕ)). or_else o (spent_in gs)) key ∙ sym key_is;
        count = λ none. absurd (cc (none, key_is));
        tried = λ none. absurd (cc (none, key_is));
      }

  pub add_up : (gs : List Given) (from : Bound) (spans : List Span) (to : Bound) → shards_of gs ≡ map shard_made spans → Adjoin from spans to → AddUp problem gs (entries_in from to es)
  unfolding shards_of
  add_up [] from [] to are h =
      let none : entries_in from to es ≡ [] = ap (λ (b : Bound). entries_in from b es) (sym h) ∙ ap through_entries (none_within from es) in
      subst (λ (all : List (Entry Row)). AddUp problem [] all) (sym none) (record { bytes = refl; key = refl; count = λ _. refl; tried = λ _. refl })
  add_up [] from (s ∷ ss) to are h = absurd (cc (are))
  add_up (g ∷ gs) from [] to are h = absurd (cc (are))
  add_up (g ∷ gs) from (s ∷ ss) to are h =
      let g_is : g.shard ≡ shard_made s = cc (are) in
      let gs_are : shards_of gs ≡ map shard_made ss = cc (are) in
      subst (λ (b : Bound). AddUp problem (g ∷ gs) (entries_in b to es)) h.0 (go (spent_key (of_span s)) refl g_is (add_up gs s.upto ss to gs_are h.2))
    where
      go : (o : Option (List ℕ)) → spent_key (of_span s) ≡ o → g.shard ≡ shard_made s → AddUp problem gs (entries_in s.upto to es) → AddUp problem (g ∷ gs) (entries_in (At s.after) to es)
      go None none e rest = add_one g gs s (entries_in s.upto to es) (entries_in (At s.after) to es) e none (whole_none s ss to h.1.below h.2 none) rest
      go (Some k) some e rest = add_last g gs s k (entries_in (At s.after) to es) e some (whole_spent s ss to k h.1.below h.2 some)
