-- Shards of spans that adjoin, put in order.
use Rattle.std.proofs.Common.{◌≡◌, ℕ, ◌+◌, ◌≤◌, Bool, true, false, List, [], ◌∷◌, ◌++◌, map, refl, sym, ap, ◌∙◌, subst, Option, Some, None}
use Rattle.std.specs.Prelude.{if◌then◌else◌}
use Rattle.kr_base.specs.declared.span.Bound.{Bound}
use Rattle.kr_base.specs.declared.span.Bound.TheVariants.{At, End}
use Rattle.kr_base.specs.declared.span.Span.{Span}
use Rattle.kr_base.specs.Bounds.{less}
use Rattle.kr_base.specs.Cuts.{is_before}
use Rattle.kr_base.proofs.Bounds.{irreflexive, transitive, not_above}
use Rattle.kr_base.proofs.Orders.{test_irreflexive, test_transitive}
use Rattle.kr_shard.specs.declared.shard.Shard.{Shard}
use Rattle.kr_shard.specs.Merging.{fault_after, fault_between, first_fault, from_of, gap_between, in_order, numbered, or_else, placed}
use Rattle.kr_shard.specs.declared.order.Given.{Given}
use Rattle.kr_shard.specs.declared.merging.MergeRefusal.{MergeRefusal}
use Rattle.kr_shard.specs.declared.merging.MergeRefusal.TheVariants.{Overlap, Gap}
use Rattle.kr_shard_laws.specs.Spans.{Adjoin, IsInAnyOrder}

-- ---- the shards of a list, in order, without their numbers

unfoldable pub shards_of : List Given → List Shard
shards_of [] = []
shards_of (g ∷ gs) = g.shard ∷ shards_of gs

put : Shard → List Shard → List Shard
put s [] = s ∷ []
put s (t ∷ ts) = if is_before t.span.after s.span.after then t ∷ put s ts else s ∷ t ∷ ts

sort : List Shard → List Shard
sort [] = []
sort (s ∷ ss) = put s (sort ss)

placed_shards : (g : Given) (gs : List Given) → shards_of (placed g gs) ≡ put g.shard (shards_of gs)
unfolding shards_of put
placed_shards g [] = refl
placed_shards g (h ∷ hs) = go (is_before (from_of h) (from_of g)) (placed_shards g hs)
  where
    go : (t : Bool) → shards_of (placed g hs) ≡ put g.shard (shards_of hs)
        → shards_of (if t then h ∷ placed g hs else g ∷ h ∷ hs) ≡ (if t then h.shard ∷ put g.shard (shards_of hs) else g.shard ∷ h.shard ∷ shards_of hs)
    go true rest = ap (λ (l : List Shard). h.shard ∷ l) rest
    go false rest = refl

ordered_shards : (n : ℕ) (ss : List Shard) → shards_of (in_order (numbered n ss)) ≡ sort ss
unfolding shards_of sort
ordered_shards n [] = refl
ordered_shards n (s ∷ ss) = placed_shards (record { index = n; shard = s }) (in_order (numbered (n + 1) ss)) ∙ ap (put s) (ordered_shards (n + 1) ss)

-- ---- a bound and another

pub other_way : (a b : Bound) → less a b ≡ true → less b a ≡ false
other_way a b h = go (less b a) refl
  where
    go : (t : Bool) → less b a ≡ t → t ≡ false
    go false is = refl
    go true is = let same : less a a ≡ true = transitive a b a h is in let none = irreflexive a in absurd (cc (same, none))

before_other : (a b : List ℕ) → is_before a b ≡ true → is_before b a ≡ false
before_other a b h = go (is_before b a) refl
  where
    go : (t : Bool) → is_before b a ≡ t → t ≡ false
    go false is = refl
    go true is = let same : is_before a a ≡ true = test_transitive a b a h is in let none = test_irreflexive a in absurd (cc (same, none))

less_at : (a b : List ℕ) → less (At a) (At b) ≡ true → is_before a b ≡ true
unfolding less
less_at a b h = h

-- the end of spans that adjoin isn't below where they begin
pub ends_above : (from : Bound) (spans : List Span) (to : Bound) → Adjoin from spans to → less to from ≡ false
ends_above from [] to h = subst (λ (b : Bound). less to b ≡ false) (sym h) (irreflexive to)
ends_above from (s ∷ ss) to h =
    let later : less to s.upto ≡ false = ends_above s.upto ss to h.2 in
    let back : less s.upto (At s.after) ≡ false = other_way (At s.after) s.upto h.1.below in
    subst (λ (b : Bound). less to b ≡ false) h.0 (not_above (At s.after) s.upto to back later)

-- ---- all begin above a cut

AllAbove : List ℕ → List Span → Type 0
AllAbove k [] = Unit {0}
AllAbove k (s ∷ ss) = (is_before k s.after ≡ true) × AllAbove k ss

AllMade : List ℕ → List Shard → Type 0
AllMade k [] = Unit {0}
AllMade k (s ∷ ss) = (is_before k s.span.after ≡ true) × AllMade k ss

-- ---- shards made of spans

module _ (make : Span → Shard) (its : (s : Span) → (make s).span ≡ s) where
  adjoin_above : (k : List ℕ) (from : Bound) (spans : List Span) (to : Bound) → less (At k) from ≡ true → Adjoin from spans to → AllAbove k spans
  unfolding AllAbove
  adjoin_above k from [] to below h = tt
  adjoin_above k from (s ∷ ss) to below h =
      let here : less (At k) (At s.after) ≡ true = subst (λ (b : Bound). less (At k) b ≡ true) (sym h.0) below in
      (less_at k s.after here, adjoin_above k s.upto ss to (transitive (At k) (At s.after) s.upto here h.1.below) h.2)

  above_insert : (k : List ℕ) (x : Span) (before after : List Span) → is_before k x.after ≡ true → AllAbove k (before ++ after) → AllAbove k (before ++ x ∷ after)
  unfolding AllAbove
  above_insert k x [] after here h = (here, h)
  above_insert k x (b ∷ bs) after here h = (h.0, above_insert k x bs after here h.1)

  above_shuffled : (k : List ℕ) (xs ys : List Span) → IsInAnyOrder xs ys → AllAbove k xs → AllAbove k ys
  unfolding AllAbove
  above_shuffled k [] ys mix h = subst (AllAbove k) (sym mix) tt
  above_shuffled k (x ∷ xs) ys mix h = subst (AllAbove k) (sym mix.2) (above_insert k x mix.0 mix.1 h.0 (above_shuffled k xs (mix.0 ++ mix.1) mix.3 h.1))

  above_put : (k : List ℕ) (s : Shard) (ss : List Shard) → is_before k s.span.after ≡ true → AllMade k ss → AllMade k (put s ss)
  unfolding AllMade put
  above_put k s [] here h = (here, tt)
  above_put k s (t ∷ ts) here h = go (is_before t.span.after s.span.after) (above_put k s ts here h.1)
    where
      go : (b : Bool) → AllMade k (put s ts) → AllMade k (if b then t ∷ put s ts else s ∷ t ∷ ts)
      go true rest = (h.0, rest)
      go false rest = (here, (h.0, h.1))

  above_sort : (k : List ℕ) (ss : List Span) → AllAbove k ss → AllMade k (sort (map make ss))
  unfolding AllAbove AllMade sort
  above_sort k [] h = tt
  above_sort k (s ∷ ss) h =
      let here : is_before k (make s).span.after ≡ true = subst (λ (t : Span). is_before k t.after ≡ true) (sym (its s)) h.0 in
      above_put k (make s) (sort (map make ss)) here (above_sort k ss h.1)

  put_first : (s : Shard) (ss : List Shard) → AllMade s.span.after ss → put s ss ≡ s ∷ ss
  unfolding AllMade put
  put_first s [] h = refl
  put_first s (t ∷ ts) h = rw (before_other s.span.after t.span.after h.0) refl

  put_later : (s t : Shard) (ts : List Shard) → is_before t.span.after s.span.after ≡ true → put s (t ∷ ts) ≡ t ∷ put s ts
  unfolding put
  put_later s t ts h = rw h refl

  -- the least comes first
  least_first : (x : Span) (before after : List Span) → AllAbove x.after (before ++ after) → sort (map make (before ++ x ∷ after)) ≡ make x ∷ sort (map make (before ++ after))
  unfolding AllAbove sort
  least_first x [] after h =
      put_first (make x) (sort (map make after)) (subst (λ (s : Span). AllMade s.after (sort (map make after))) (sym (its x)) (above_sort x.after after h))
  least_first x (b ∷ bs) after h =
      let here : is_before (make x).span.after (make b).span.after ≡ true =
      subst (λ (s : Span). is_before s.after (make b).span.after ≡ true) (sym (its x)) (subst (λ (t : Span). is_before x.after t.after ≡ true) (sym (its b)) h.0) in
      ap (put (make b)) (least_first x bs after h.1) ∙ put_later (make b) (make x) (sort (map make (bs ++ after))) here

  sorted : (from : Bound) (spans given : List Span) (to : Bound) → Adjoin from spans to → IsInAnyOrder spans given → sort (map make given) ≡ map make spans
  unfolding sort
  sorted from [] given to h mix = ap (λ (l : List Span). sort (map make l)) mix
  sorted from (s ∷ ss) given to h mix =
      let rest : List Span = mix.0 ++ mix.1 in
      let above : AllAbove s.after (mix.0 ++ mix.1) = above_shuffled s.after ss (mix.0 ++ mix.1) mix.3 (adjoin_above s.after s.upto ss to h.1.below h.2) in
      ap (λ (l : List Span). sort (map make l)) mix.2
      ∙ (least_first s mix.0 mix.1 above ∙ ap (λ (l : List Shard). make s ∷ l) (sorted s.upto ss (mix.0 ++ mix.1) to h.2 mix.3))

  -- the given shards in order are those of the spans
  pub in_order_is : (from : Bound) (spans given : List Span) (to : Bound) → Adjoin from spans to → IsInAnyOrder spans given
      → shards_of (in_order (numbered 0 (map make given))) ≡ map make spans
  in_order_is from spans given to h mix = ordered_shards 0 (map make given) ∙ sorted from spans given to h mix

  -- ---- they adjoin

  no_fault : (g h : Given) (s t : Span) → g.shard ≡ make s → h.shard ≡ make t → At t.after ≡ s.upto → fault_between g h ≡ None
  no_fault g h s t g_is h_is meet =
      let from : from_of h ≡ t.after = ap (λ (x : Shard). x.span.after) h_is ∙ ap (λ (x : Span). x.after) (its t) in
      let upto : g.shard.span.upto ≡ At t.after = ap (λ (x : Shard). x.span.upto) g_is ∙ (ap (λ (x : Span). x.upto) (its s) ∙ sym meet) in
      let at_from : At (from_of h) ≡ At t.after = ap At from in
      ap (λ (b : Bound). if less (At (from_of h)) b then Some (Overlap h.index) else gap_between b (from_of h)) upto
      ∙ (ap (λ (k : List ℕ). if less (At k) (At t.after) then Some (Overlap h.index) else gap_between (At t.after) k) from
      ∙ (ap (λ (b : Bool). if b then Some (Overlap h.index) else gap_between (At t.after) t.after) (irreflexive (At t.after))
      ∙ ap (λ (b : Bool). if b then Some (Gap t.after t.after) else None) (test_irreflexive t.after)))

  none_after : (g : Given) (s : Span) (gs : List Given) (ss : List Span) (to : Bound) → g.shard ≡ make s → shards_of gs ≡ map make ss → Adjoin s.upto ss to → fault_after g gs ≡ None
  unfolding shards_of
  none_after g s [] ss to g_is are h = refl
  none_after g s (x ∷ xs) [] to g_is are h = absurd (cc (are))
  none_after g s (x ∷ xs) (t ∷ ts) to g_is are h =
      let x_is : x.shard ≡ make t = cc (are) in
      let xs_are : shards_of xs ≡ map make ts = cc (are) in
      ap (λ (o : Option MergeRefusal). or_else o (fault_after x xs)) (no_fault g x s t g_is x_is h.0) ∙ none_after x t xs ts to x_is xs_are h.2

  pub no_first_fault : (gs : List Given) (from : Bound) (spans : List Span) (to : Bound) → shards_of gs ≡ map make spans → Adjoin from spans to → first_fault gs ≡ None
  unfolding shards_of
  no_first_fault [] from spans to are h = refl
  no_first_fault (g ∷ gs) from [] to are h = absurd (cc (are))
  no_first_fault (g ∷ gs) from (s ∷ ss) to are h =
      let g_is : g.shard ≡ make s = cc (are) in
      let gs_are : shards_of gs ≡ map make ss = cc (are) in
      none_after g s gs ss to g_is gs_are h.2
