-- The newest locals of names, as bindings are entered and left.
use Rattle.std.proofs.Common.{◌≡◌, ℕ, zero, suc, ◌+◌, ◌-◌, ◌<◌, ◌≤◌, ◌⊎◌, inl, inr, Bool, true, false, cond, List, [], ◌∷◌, ◌++◌, length, Option, Some, None, get_or, refl, sym, ap, subst, ◌∙◌, arith, bytes_eq, if◌then◌else◌, get_or-set_same, get_or-set_other, length-append}
use Rattle.std.specs.Prelude.{slice_get}
use Rattle.std.specs.List.{position_from}
use Rattle.std.proofs.Math.ListN.{set, length-set}
use Rattle.std.proofs.Math.Seq.{get_or-append_seam}
use Rattle.std.proofs.lemmas.List.{get_or_append_left, get_or_past}
use Rattle.std.proofs.lemmas.Option.{slice_get_within, slice_get-get_or}
use Rattle.std.proofs.lemmas.Slice.Eq.{bytes_eq-Decides}
use Rattle.std.proofs.lemmas.Bool.{cases_eq}
use Rattle.kr_ast.specs.Arena.{Arena, name_in}
use Rattle.kr_classes_table.specs.Constants.{or_else}
use Rattle.kr_classes_names.specs.Listed.{IsIndexOf, place_of}
use Rattle.kr_classes_names.proofs.Indexes.{position_push, same_name}
use Rattle.kr_types_scopes.specs.declared.within.Binding.{Binding}
use Rattle.kr_types_scopes.specs.declared.newest.Newest.{Newest}
use Rattle.kr_types_scopes.specs.Settings.{IsChain}
use Rattle.kr_types_scopes.specs.Newest.{AreNoted, IsEntered, IsNoted, IsRestored, MayBegin, noted_place, place_or_none}
use Rattle.kr_types_scopes.proofs.Looking.{meant_other}

-- ---- names with one number

past_first : (n : List ℕ) (k : ℕ) (xs : List (List ℕ)) (i : ℕ) → position_from (bytes_eq n) k xs ≡ Some i → k ≤ i
past_first n k [] i e = absurd (cc e)
past_first n k (x ∷ xs) i e = go (bytes_eq n x) e (past_first n (k + 1) xs i)
  where
    go : (p : Bool) → cond p (Some k) (position_from (bytes_eq n) (k + 1) xs) ≡ Some i → (position_from (bytes_eq n) (k + 1) xs ≡ Some i → k + 1 ≤ i) → k ≤ i
    go true e later = let same : k ≡ i = cc e in omega (arith, same)
    go false e later = omega (arith, later e)

one_name : (m n : List ℕ) (k : ℕ) (xs : List (List ℕ)) (i : ℕ) → position_from (bytes_eq m) k xs ≡ Some i → position_from (bytes_eq n) k xs ≡ Some i → m ≡ n
one_name m n k [] i e f = absurd (cc e)
one_name m n k (x ∷ xs) i e f =
    go (bytes_eq m x) (bytes_eq n x) (same_name m x) (same_name n x) e f (past_first m (k + 1) xs i) (past_first n (k + 1) xs i) (one_name m n (k + 1) xs i)
  where
    go : (p q : Bool) → (p ≡ true → m ≡ x) → (q ≡ true → n ≡ x) → cond p (Some k) (position_from (bytes_eq m) (k + 1) xs) ≡ Some i → cond q (Some k) (position_from (bytes_eq n) (k + 1) xs) ≡ Some i
        → (position_from (bytes_eq m) (k + 1) xs ≡ Some i → k + 1 ≤ i) → (position_from (bytes_eq n) (k + 1) xs ≡ Some i → k + 1 ≤ i)
        → (position_from (bytes_eq m) (k + 1) xs ≡ Some i → position_from (bytes_eq n) (k + 1) xs ≡ Some i → m ≡ n) → m ≡ n
    go true true a b e f u v rest = a refl ∙ sym (b refl)
    go true false a b e f u v rest = let same : k ≡ i = cc e in absurd (omega (arith, same, v f))
    go false true a b e f u v rest = let same : k ≡ i = cc f in absurd (omega (arith, same, u e))
    go false false a b e f u v rest = rest e f

same_number : (names : List (List ℕ)) (index : List (List ℕ × ℕ)) → IsIndexOf names index → (m n : List ℕ) (i : ℕ) → place_of m index ≡ Some i → place_of n index ≡ Some i → m ≡ n
same_number names index h m n i e f = one_name m n 0 names i (sym (h m) ∙ e) (sym (h n) ∙ f)

-- ---- what is noted of names

noted_same : (index : List (List ℕ × ℕ)) (newest : List ℕ) (n : List ℕ) (j o : ℕ) → place_of n index ≡ Some j → j < length newest → noted_place index (set newest j o) n ≡ o
noted_same index newest n j o e lt = ap (place_or_none (set newest j o)) e ∙ get_or-set_same newest j o 0 lt

noted_other : (names : List (List ℕ)) (index : List (List ℕ × ℕ)) (newest : List ℕ) → IsIndexOf names index → (m n : List ℕ) (j o : ℕ) → place_of m index ≡ Some j → (m ≡ n → ⊥)
    → noted_place index (set newest j o) n ≡ noted_place index newest n
noted_other names index newest h m n j o e d = go (place_of n index) refl
  where
    go : (r : Option ℕ) → place_of n index ≡ r → place_or_none (set newest j o) r ≡ place_or_none newest r
    go None is = refl
    go (Some i) is = get_or-set_other newest j i o 0 (λ s. d (same_number names index h m n j e (is ∙ ap Some s)))

zero_more : (xs : List ℕ) (i : ℕ) → get_or (xs ++ 0 ∷ []) i 0 ≡ get_or xs i 0
zero_more [] zero = refl
zero_more [] (suc i) = refl
zero_more (x ∷ xs) zero = refl
zero_more (x ∷ xs) (suc i) = zero_more xs i

noted_more : (names : List (List ℕ)) (index made : List (List ℕ × ℕ)) (newest : List ℕ) (name : List ℕ) → IsIndexOf names index → length names ≡ length newest → IsIndexOf (names ++ name ∷ []) made
    → (n : List ℕ) → noted_place made (newest ++ 0 ∷ []) n ≡ noted_place index newest n
noted_more names index made newest name h count m n =
    ap (place_or_none (newest ++ 0 ∷ [])) (m n ∙ position_push (bytes_eq n) 0 names name)
    ∙ (go (position_from (bytes_eq n) 0 names) (bytes_eq n name) ∙ ap (place_or_none newest) (sym (h n)))
  where
    go : (r : Option ℕ) (p : Bool) → place_or_none (newest ++ 0 ∷ []) (or_else r (if p then Some (0 + length names) else None)) ≡ place_or_none newest r
    go (Some i) p = zero_more newest i
    go None true = zero_more newest (0 + length names) ∙ get_or_past newest (0 + length names) 0 (omega (arith, count))
    go None false = refl

-- ---- the place moves

module _ (tree : Arena) (bs : List Binding) where
  pub begin_same : (n : List ℕ) (top : ℕ) → top ≤ length bs → MayBegin tree bs top n top
  begin_same n top le = record { within = le; same = λ t v f. refl }

  pub none_noted : (index : List (List ℕ × ℕ)) → IsIndexOf [] index → AreNoted tree bs index [] [] 0
  none_noted index h = record {
    names = [];
    indexed = h;
    count = refl;
    each = λ n. subst (λ (o : Option ℕ). MayBegin tree bs 0 n (place_or_none [] o)) (sym (h n)) (begin_same n 0 (omega arith));
    before = λ k b l is. absurd (omega (arith, l));
  }

  pub more_noted : (index made : List (List ℕ × ℕ)) (newest outer : List ℕ) (at : ℕ) (name : List ℕ) (h : AreNoted tree bs index newest outer at) → IsIndexOf (h.names ++ name ∷ []) made
      → AreNoted tree bs made (newest ++ 0 ∷ []) outer at
  more_noted index made newest outer at name h m = record {
    names = h.names ++ name ∷ [];
    indexed = m;
    count = omega (arith, h.count, length-append h.names (name ∷ []), length-append newest (0 ∷ []));
    each = λ n. subst (λ (q : ℕ). MayBegin tree bs at n q) (sym (noted_more h.names index made newest name h.indexed h.count m n)) (h.each n);
    before = h.before;
  }

  module _ (chain : IsChain bs) (top : ℕ) (b : Binding) (le : top ≤ length bs) (pos : 0 < top) (stored : slice_get bs (top - 1) ≡ Some b) where
    is : b ≡ get_or bs (top - 1) b
    is = let z : Some b ≡ Some (get_or bs (top - 1) b) = sym stored ∙ slice_get-get_or bs (top - 1) b (omega (arith, le, pos)) in cc z

    abbrev own : List ℕ
    own = name_in tree.text b.name

    begin_below : (n : List ℕ) (q : ℕ) → (own ≡ n → ⊥) → MayBegin tree bs top n q → MayBegin tree bs b.below n q
    begin_below n q d h = record { within = h.within; same = λ t v f. h.same t v f ∙ sym (meant_other tree bs chain top b le pos is n d t v f) }

    begin_above : (n : List ℕ) (q : ℕ) → (own ≡ n → ⊥) → MayBegin tree bs b.below n q → MayBegin tree bs top n q
    begin_above n q d h = record { within = h.within; same = λ t v f. h.same t v f ∙ meant_other tree bs chain top b le pos is n d t v f }

    either : (n : List ℕ) → (own ≡ n) ⊎ (own ≡ n → ⊥)
    either n = go (bytes_eq own n) refl
      where
        go : (p : Bool) → bytes_eq own n ≡ p → (own ≡ n) ⊎ (own ≡ n → ⊥)
        go true e = inl (same_name own n e)
        go false e = inr (λ s. let t : bytes_eq own n ≡ true = (bytes_eq-Decides own n).1 s in absurd (cc (t, e)))

    pub left_noted : (index : List (List ℕ × ℕ)) (newest outer : List ℕ) (j : ℕ) → AreNoted tree bs index newest outer top → place_of own index ≡ Some j → j < length newest → top - 1 < length outer
        → AreNoted tree bs index (set newest j (get_or outer (top - 1) 0)) outer b.below
    left_noted index newest outer j h there lt entered = record {
      names = h.names;
      indexed = h.indexed;
      count = h.count ∙ sym (length-set newest j o);
      each = λ n. go n (either n);
      before = h.before;
    }
      where
        o : ℕ
        o = get_or outer (top - 1) 0

        go : (n : List ℕ) → (own ≡ n) ⊎ (own ≡ n → ⊥) → MayBegin tree bs b.below n (noted_place index (set newest j o) n)
        go n (inl e) =
            subst (λ (m : List ℕ). MayBegin tree bs b.below m (noted_place index (set newest j o) m)) e
            (subst (λ (q : ℕ). MayBegin tree bs b.below own q) (sym (noted_same index newest own j o there lt)) (h.before (top - 1) b entered stored))
        go n (inr d) = subst (λ (q : ℕ). MayBegin tree bs b.below n q) (sym (noted_other h.names index newest h.indexed own n j o there d)) (begin_below n _ d (h.each n))

    pub entered_noted : (index : List (List ℕ × ℕ)) (newest outer : List ℕ) (j : ℕ) → AreNoted tree bs index newest outer b.below → place_of own index ≡ Some j → j < length newest → top ≡ length outer + 1
        → AreNoted tree bs index (set newest j top) (outer ++ get_or newest j 0 ∷ []) top
    entered_noted index newest outer j h there lt next = record {
      names = h.names;
      indexed = h.indexed;
      count = h.count ∙ sym (length-set newest j top);
      each = λ n. go n (either n);
      before = λ k c l there. before k c l there (cases_eq k (length outer));
    }
      where
        o : ℕ
        o = get_or newest j 0

        go : (n : List ℕ) → (own ≡ n) ⊎ (own ≡ n → ⊥) → MayBegin tree bs top n (noted_place index (set newest j top) n)
        go n (inl e) =
            subst (λ (m : List ℕ). MayBegin tree bs top m (noted_place index (set newest j top) m)) e
            (subst (λ (q : ℕ). MayBegin tree bs top own q) (sym (noted_same index newest own j top there lt)) (begin_same own top le))
        go n (inr d) = subst (λ (q : ℕ). MayBegin tree bs top n q) (sym (noted_other h.names index newest h.indexed own n j top there d)) (begin_above n _ d (h.each n))

        here : MayBegin tree bs b.below own o
        here = subst (λ (r : Option ℕ). MayBegin tree bs b.below own (place_or_none newest r)) there (h.each own)

        before : (k : ℕ) (c : Binding) → k < length (outer ++ o ∷ []) → slice_get bs k ≡ Some c → (k ≡ length outer) ⊎ (k ≡ length outer → ⊥)
            → MayBegin tree bs c.below (name_in tree.text c.name) (get_or (outer ++ o ∷ []) k 0)
        before k c l is' (inl e) =
            let last : k ≡ top - 1 = omega (arith, e, next) in
            let same : b ≡ c = let z : Some b ≡ Some c = sym stored ∙ (ap (slice_get bs) (sym last) ∙ is') in cc z in
            subst (λ (x : Binding). MayBegin tree bs x.below (name_in tree.text x.name) (get_or (outer ++ o ∷ []) k 0)) same
            (subst (λ (i : ℕ). MayBegin tree bs b.below own (get_or (outer ++ o ∷ []) i 0)) (sym e) (subst (λ (q : ℕ). MayBegin tree bs b.below own q) (sym (get_or-append_seam outer o [] 0)) here))
        before k c l is' (inr d) =
            let lt : k < length outer = omega (arith, l, d, length-append outer (o ∷ [])) in
            subst (λ (q : ℕ). MayBegin tree bs c.below (name_in tree.text c.name) q) (sym (get_or_append_left outer (o ∷ []) 0 k lt)) (h.before k c lt is')

  -- the binding before the place is left
  pub left : (chain : IsChain bs) (old new : Newest) (b : Binding) (name : List ℕ) → IsNoted tree bs old → 0 < old.at → slice_get bs (old.at - 1) ≡ Some b → name ≡ name_in tree.text b.name
      → new.outer.items ≡ old.outer.items → new.index ≡ old.index → (new.is_lost ≡ false → IsRestored old new name (old.at - 1)) → IsNoted tree bs (record new { at = b.below })
  left chain old new b name h pos stored named outer index restored = record {
    within = omega (arith, (chain (old.at - 1) b stored).below, h.within, slice_get_within bs (old.at - 1) b stored);
    entered = omega (arith, h.entered, ap length outer);
    right = λ e. go (restored e);
  }
    where
      go : IsRestored old new name (old.at - 1) → AreNoted tree bs new.index new.newest.items new.outer.items b.below
      go r =
          let there : place_of (name_in tree.text b.name) old.index ≡ Some r.number = ap (λ n. place_of n old.index) (sym named) ∙ r.there in
          let noted = left_noted chain old.at b h.within pos stored old.index old.newest.items old.outer.items r.number (h.right r.was) there r.numbered r.entered in
          subst (λ (i : List (List ℕ × ℕ)). AreNoted tree bs i new.newest.items new.outer.items b.below) (sym index)
          (subst (λ (ns : List ℕ). AreNoted tree bs old.index ns new.outer.items b.below) (sym r.newest)
          (subst (λ (os : List ℕ). AreNoted tree bs old.index (set old.newest.items r.number (get_or old.outer.items (old.at - 1) 0)) os b.below) (sym outer) noted))

  pub below_at : (chain : IsChain bs) (at : ℕ) (b : Binding) → 0 < at → slice_get bs (at - 1) ≡ Some b → b.below < at
  below_at chain at b pos stored = omega (arith, (chain (at - 1) b stored).below, pos)

  -- the next binding is entered
  pub entered : (chain : IsChain bs) (old new : Newest) (b : Binding) (name : List ℕ) → IsNoted tree bs old → length old.outer.items < length bs → slice_get bs (length old.outer.items) ≡ Some b → name ≡ name_in tree.text b.name
      → (old.is_lost ≡ false → old.at ≡ b.below) → new.at ≡ length old.outer.items + 1 → length new.outer.items ≡ length old.outer.items + 1 → (new.is_lost ≡ false → IsEntered old new name) → IsNoted tree bs new
  entered chain old new b name h lt stored named upon at more noted = record {
    within = omega (arith, at, lt);
    entered = omega (arith, more, lt);
    right = λ e. go (noted e);
  }
    where
      go : IsEntered old new name → AreNoted tree bs new.index new.newest.items new.outer.items new.at
      go r =
          let k = length old.outer.items in
          let last : k ≡ k + 1 - 1 = omega arith in
          let there : place_of (name_in tree.text b.name) old.index ≡ Some r.number = ap (λ n. place_of n old.index) (sym named) ∙ r.there in
          let below : AreNoted tree bs old.index old.newest.items old.outer.items b.below = subst (λ (i : ℕ). AreNoted tree bs old.index old.newest.items old.outer.items i) (upon r.was) (h.right r.was) in
          let made = entered_noted chain (k + 1) b (omega (arith, lt)) (omega arith) (ap (slice_get bs) (sym last) ∙ stored) old.index old.newest.items old.outer.items r.number below there r.numbered refl in
          subst (λ (i : ℕ). AreNoted tree bs new.index new.newest.items new.outer.items i) (sym at)
          (subst (λ (i : List (List ℕ × ℕ)). AreNoted tree bs i new.newest.items new.outer.items (k + 1)) (sym r.index)
          (subst (λ (ns : List ℕ). AreNoted tree bs old.index ns new.outer.items (k + 1)) (sym r.newest)
          (subst (λ (os : List ℕ). AreNoted tree bs old.index (set old.newest.items r.number (k + 1)) os (k + 1)) (sym r.outer) made)))
