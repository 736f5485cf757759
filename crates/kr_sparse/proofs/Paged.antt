-- Lists in pages: an item is added, and an item is found.
use Rattle.std.proofs.Common.{◌≡◌, ℕ, zero, suc, ◌+◌, ◌-◌, ◌*◌, ◌/◌, ◌%◌, ◌^◌, ◌<◌, ◌≤◌, Bool, true, refl, subst, sym, ap, ◌∙◌, arith, List, [], ◌∷◌, ◌++◌, length, get_or, replicate, All, Option, Some, None, Vec, Global, length-append, append_assoc}
use Rattle.std.specs.List.{flat_map}
use Rattle.std.proofs.Math.Nat.{suc-mul}
use Rattle.std.proofs.lemmas.List.{append-nil, get_or-append-add, get_or_append_left, length-replicate}
use Rattle.std.proofs.lemmas.List.Concat.{flat_map-append}
use Rattle.std.proofs.lemmas.List.Elements.{All-head, All-nil, All-push, All-tail}
use Rattle.kr_sparse.specs.Pages.{IsFull, IsSparse, all_items, page_items, page_len}
use Rattle.kr_sparse.proofs.Numbers.{after_pages, before_end, page_of, within_page}

module _ {T : Type 0} (usual : T) where
  -- items are all the usual one
  pub all_usual : (xs : List T) → All (λ x. x ≡ usual) xs → xs ≡ replicate (length xs) usual
  all_usual [] h = refl
  all_usual (x ∷ xs) h = ap (λ y. y ∷ xs) (All-head (λ x. x ≡ usual) x xs h) ∙ ap (λ ys. usual ∷ ys) (all_usual xs (All-tail (λ x. x ≡ usual) x xs h))

  one_page : (ps : List (Option (Vec T Global))) (p : Option (Vec T Global)) → flat_map (page_items usual) (ps ++ p ∷ []) ≡ flat_map (page_items usual) ps ++ page_items usual p
  one_page ps p = flat_map-append (page_items usual) ps (p ∷ []) ∙ ap (λ xs. flat_map (page_items usual) ps ++ xs) (append-nil (page_items usual p))

  -- the items after the full pages become one
  pub page_made : (ps : List (Option (Vec T Global))) (p : Option (Vec T Global)) (rest : List T) → page_items usual p ≡ rest → all_items usual (ps ++ p ∷ []) [] ≡ all_items usual ps rest
  page_made ps p rest same = append-nil (flat_map (page_items usual) (ps ++ p ∷ [])) ∙ (one_page ps p ∙ ap (λ xs. flat_map (page_items usual) ps ++ xs) same)

  pub page_ended : (count : ℕ) (ps : List (Option (Vec T Global))) (rest : List T) (is_usual : Bool) (p : Option (Vec T Global)) → IsSparse usual count ps rest is_usual → page_items usual p ≡ rest → IsFull p → IsSparse usual count (ps ++ p ∷ []) [] true
  page_ended count ps rest is_usual p inv same full =
      let items = page_made ps p rest same in
      record {
        long = inv.long ∙ ap length (sym items);
        few = subst (λ (xs : List T). length xs < 2 ^ 32) (sym items) inv.few;
        full = All-push (λ p. IsFull p) ps p inv.full full;
        same = λ e. All-nil (λ x. x ≡ usual);
      }

  -- an item after the full pages
  pub items_pushed : (ps : List (Option (Vec T Global))) (rest : List T) (x : T) → all_items usual ps (rest ++ x ∷ []) ≡ all_items usual ps rest ++ x ∷ []
  items_pushed ps rest x = sym (append_assoc (flat_map (page_items usual) ps) rest (x ∷ []))

  -- each full page is as long
  page_long : (p : Option (Vec T Global)) → IsFull p → length (page_items usual p) ≡ page_len
  page_long None here = length-replicate page_len usual
  page_long (Some v) here = here

  pub length-pages : (ps : List (Option (Vec T Global))) → All (λ p. IsFull p) ps → length (flat_map (page_items usual) ps) ≡ length ps * page_len
  length-pages [] full = omega arith
  length-pages (p ∷ ps) full =
      let one = page_long p (All-head (λ p. IsFull p) p ps full) in
      let more = length-pages ps (All-tail (λ p. IsFull p) p ps full) in
      omega (arith, length-append (page_items usual p) (flat_map (page_items usual) ps), one, more, suc-mul (length ps) page_len)

  -- an item of a full page
  pub in_page : (ps : List (Option (Vec T Global))) (q r : ℕ) (p : Option (Vec T Global)) (d : T) → All (λ p. IsFull p) ps → q < length ps → r < page_len → p ≡ get_or ps q p → get_or (flat_map (page_items usual) ps) (q * page_len + r) d ≡ get_or (page_items usual p) r d
  in_page [] q r p d full lt within is = absurd (omega arith)
  in_page (x ∷ ps) zero r p d full lt within is =
      let long = page_long x (All-head (λ p. IsFull p) x ps full) in
      let at : zero * page_len + r ≡ r = omega arith in
      ap (λ k. get_or (page_items usual x ++ flat_map (page_items usual) ps) k d) at
      ∙ (get_or_append_left (page_items usual x) (flat_map (page_items usual) ps) d r (omega (arith, long, within)) ∙ ap (λ y. get_or (page_items usual y) r d) (sym is))
  in_page (x ∷ ps) (suc q) r p d full lt within is =
      let long = page_long x (All-head (λ p. IsFull p) x ps full) in
      let at : suc q * page_len + r ≡ length (page_items usual x) + (q * page_len + r) = omega (arith, suc-mul q page_len, long) in
      ap (λ k. get_or (page_items usual x ++ flat_map (page_items usual) ps) k d) at
      ∙ (get_or-append-add (page_items usual x) (flat_map (page_items usual) ps) (q * page_len + r) d
      ∙ in_page ps q r p d (All-tail (λ p. IsFull p) x ps full) (omega arith) within is)

  -- an item after the full pages
  pub in_rest : (ps : List (Option (Vec T Global))) (rest : List T) (k n : ℕ) (d : T) → All (λ p. IsFull p) ps → k ≡ length ps * page_len + n → get_or (all_items usual ps rest) k d ≡ get_or rest n d
  in_rest ps rest k n d full at =
      let long = length-pages ps full in
      let e : k ≡ length (flat_map (page_items usual) ps) + n = omega (arith, at, long) in
      ap (λ k. get_or (all_items usual ps rest) k d) e ∙ get_or-append-add (flat_map (page_items usual) ps) rest n d

  -- an item of the full page that it is in
  pub at_page : (ps : List (Option (Vec T Global))) (rest : List T) (k : ℕ) (p : Option (Vec T Global)) (d : T) → All (λ p. IsFull p) ps → k / page_len < length ps → p ≡ get_or ps (k / page_len) p → get_or (all_items usual ps rest) k d ≡ get_or (page_items usual p) (k % page_len) d
  at_page ps rest k p d full lt is =
      let q = k / page_len in
      let r = k % page_len in
      let split : k ≡ q * page_len + r = page_of k in
      let front : q * page_len + r < length (flat_map (page_items usual) ps) = omega (arith, before_end q r (length ps) lt (within_page k), length-pages ps full) in
      ap (λ k. get_or (all_items usual ps rest) k d) split
      ∙ (get_or_append_left (flat_map (page_items usual) ps) rest d (q * page_len + r) front ∙ in_page ps q r p d full lt (within_page k) is)

  -- an index after the full pages
  pub after_full : (ps : List (Option (Vec T Global))) (rest : List T) (k : ℕ) → All (λ p. IsFull p) ps → k < length (all_items usual ps rest) → length ps ≤ k / page_len → (k - length ps * page_len < length rest) × (k ≡ length ps * page_len + (k - length ps * page_len))
  after_full ps rest k full lt le =
      let before = after_pages (length ps) k le in
      (omega (arith, lt, before, length-append (flat_map (page_items usual) ps) rest, length-pages ps full), omega (arith, before))
