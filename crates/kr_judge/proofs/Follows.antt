-- Slots that follow others, and those left where they are removed again.
use Rattle.std.proofs.Common.{◌≡◌, ℕ, zero, suc, ◌<◌, ◌≤◌, arith, ◌⊎◌, inl, inr, Bool, true, false, List, [], ◌∷◌, ◌++◌, length, take, drop, ◌+◌, add-one, refl, sym, ap, ◌∙◌, subst}
use Rattle.std.specs.Prelude.{flat_map, map, reverse, ◌||◌, ◌==◌, if◌then◌else◌}
use Rattle.std.proofs.Math.Seq.{take-append_seam, drop-cons}
use Rattle.std.proofs.lemmas.Bool.{eqb-true, eq-eqb, or_right, cases_Bool}
use Rattle.std.proofs.lemmas.List.{append-nil, append_assoc, map-append, reverse-append, reverse-reverse, take-append-drop, take-map, take_all}
use Rattle.std.proofs.lemmas.List.Concat.{flat_map-append}
use Rattle.kr_mean.specs.Places.{SlotPlace}
use Rattle.kr_mean.specs.Runs.{contains_number, is_same_place}
use Rattle.kr_mean.specs.Places.{place_of}
use Rattle.kr_value.specs.declared.place.SlotPlace.{SlotPlace as Place}
use Rattle.kr_run_state.specs.Noting.{is_read}
use Rattle.kr_judge.specs.Follows.{AreOf, HaveCome, place_in}
use Rattle.kr_judge.specs.Orders.{AreMarked, EachOnce, with_slot, with_slots}
use Rattle.kr_judge.specs.declared.accesses.Access.{Access}
use Rattle.kr_judge.proofs.Orders.{contains_more, same_places, with_both}
use Rattle.std.proofs.Common.{get_or}

-- ---- each once

-- a slot that isn't there comes
pub once_more : (ss : List ℕ) (s : ℕ) → EachOnce ss → contains_number ss s ≡ false → EachOnce (ss ++ s ∷ [])
once_more [] s o e = (refl, tt)
once_more (t ∷ ts) s o e =
    let r = neither (t == s) (contains_number ts s) e in
    (contains_more ts s t ∙ (ap (λ (b : Bool). if b then true else contains_number ts t) r.0 ∙ o.0), once_more ts s o.1 r.1)
  where
    neither : (a b : Bool) → (a || b) ≡ false → (a ≡ false) × (b ≡ false)
    neither true b h = absurd (cc (h))
    neither false b h = (refl, h)

-- the last one goes
pub once_less : (ss : List ℕ) (s : ℕ) → EachOnce (ss ++ s ∷ []) → EachOnce ss × (contains_number ss s ≡ false)
once_less [] s o = (tt, refl)
once_less (t ∷ ts) s o =
    let r = once_less ts s o.1 in
    let h = last (t == s) (contains_number ts t) (sym (contains_more ts s t) ∙ o.0) in
    ((h.1, r.0), ap (λ (b : Bool). b || contains_number ts s) h.0 ∙ r.1)
  where
    last : (a b : Bool) → (if a then true else b) ≡ false → (a ≡ false) × (b ≡ false)
    last true b h = absurd (cc (h))
    last false b h = (refl, h)

-- it isn't marked any more
pub marked_less : (old new : List Bool) (ss : List ℕ) (s : ℕ) → AreMarked old (ss ++ s ∷ []) → contains_number ss s ≡ false
    → ((m : ℕ) → get_or new m false ≡ (if m == s then false else get_or old m false)) → AreMarked new ss
marked_less old new ss s a e h = λ t. h t ∙ (ap (λ (b : Bool). if t == s then false else b) (a t ∙ contains_more ss s t) ∙ go t (cases_Bool (t == s)))
  where
    go : (t : ℕ) → ((t == s) ≡ true) ⊎ ((t == s) ≡ false) → (if t == s then false else (if t == s then true else contains_number ss t)) ≡ contains_number ss t
    go t (inl i) = rw i (sym (ap (contains_number ss) (eqb-true t s i) ∙ e))
    go t (inr i) = rw i refl

-- ---- slots before one

contains_at : (ss : List ℕ) (n : ℕ) → n < length ss → contains_number ss (get_or ss n 0) ≡ true
contains_at [] n h = absurd (omega (arith, h))
contains_at (s ∷ ss) zero h = ap (λ (b : Bool). b || contains_number ss s) (eq-eqb s s refl)
contains_at (s ∷ ss) (suc n) h = or_right (s == get_or ss n 0) (contains_number ss (get_or ss n 0)) (contains_at ss n (omega (arith, h)))

-- a slot that comes once isn't among those before it
pub once_before : (ss : List ℕ) (n x : ℕ) → EachOnce ss → n < length ss → get_or ss n 0 ≡ x → contains_number (take n ss) x ≡ false
once_before [] n x o h e = absurd (omega (arith, h))
once_before (s ∷ ss) zero x o h e = refl
once_before (s ∷ ss) (suc n) x o h e = go (cases_Bool (s == x)) (once_before ss n x o.1 (omega (arith, h)) e)
  where
    go : ((s == x) ≡ true) ⊎ ((s == x) ≡ false) → contains_number (take n ss) x ≡ false → contains_number (take (suc n) (s ∷ ss)) x ≡ false
    go (inl i) r = absurd (cc (subst (λ (y : ℕ). contains_number ss y ≡ true) (e ∙ sym (eqb-true s x i)) (contains_at ss n (omega (arith, h))), o.0))
    go (inr i) r = ap (λ (b : Bool). b || contains_number (take n ss) x) i ∙ r

-- nor is one that none of them is
pub none_before : (ss : List ℕ) (n x : ℕ) → ((i : ℕ) → i < n → get_or ss i 0 ≡ x → ⊥) → contains_number (take n ss) x ≡ false
none_before [] zero x h = refl
none_before [] (suc n) x h = refl
none_before (s ∷ ss) zero x h = refl
none_before (s ∷ ss) (suc n) x h = go (cases_Bool (s == x)) (none_before ss n x (λ k l. h (suc k) (omega (arith, l))))
  where
    go : ((s == x) ≡ true) ⊎ ((s == x) ≡ false) → contains_number (take n ss) x ≡ false → contains_number (take (suc n) (s ∷ ss)) x ≡ false
    go (inl i) r = absurd (h 0 (omega arith) (eqb-true s x i))
    go (inr i) r = ap (λ (b : Bool). b || contains_number (take n ss) x) i ∙ r

-- ---- slots after others

behind : (order ss : List ℕ) → (more : List ℕ) × (with_slots order ss ≡ order ++ more)
behind order [] = ([], sym (append-nil order))
behind order (s ∷ ss) = go (cases_Bool (contains_number order s)) (behind (with_slot order s) ss)
  where
    go : (contains_number order s ≡ true) ⊎ (contains_number order s ≡ false) → (more : List ℕ) × (with_slots (with_slot order s) ss ≡ with_slot order s ++ more)
        → (more : List ℕ) × (with_slots (with_slot order s) ss ≡ order ++ more)
    go (inl e) (more, r) = (more, r ∙ ap (λ (l : List ℕ). l ++ more) (ap (λ (b : Bool). if b then order else order ++ s ∷ []) e))
    go (inr e) (more, r) = (s ∷ more, r ∙ (ap (λ (l : List ℕ). l ++ more) (ap (λ (b : Bool). if b then order else order ++ s ∷ []) e) ∙ append_assoc order (s ∷ []) more))

pub front_is : (order ss : List ℕ) → take (length order) (with_slots order ss) ≡ order
front_is order ss =
    let b = behind order ss in
    ap (λ (l : List ℕ). take (length order) l) b.1 ∙ take-append_seam order b.0

-- ---- places

reverse_at : (accesses : List Access) (n : ℕ) (other : Access) → n < length accesses → reverse accesses ≡ reverse (drop (n + 1) accesses) ++ get_or accesses n other ∷ reverse (take n accesses)
reverse_at accesses n other lt =
    let b = get_or accesses n other in
    let parts : accesses ≡ take n accesses ++ b ∷ drop (n + 1) accesses = sym (take-append-drop n accesses) ∙ ap (λ (l : List Access). take n accesses ++ l) (rw (add-one, drop-cons accesses n other) refl) in
    ap (λ (l : List Access). reverse l) parts
    ∙ (reverse-append (take n accesses) (b ∷ drop (n + 1) accesses)
    ∙ (ap (λ (l : List Access). l ++ reverse (take n accesses)) (reverse-append (b ∷ []) (drop (n + 1) accesses))
    ∙ append_assoc (reverse (drop (n + 1) accesses)) (b ∷ []) (reverse (take n accesses))))

module _ (slots_of : SlotPlace → List ℕ) where
  -- a place comes, and its slots
  pub come : (front : List Access) (p : Place) (order new : List ℕ) → AreOf slots_of (reverse front) order → new ≡ with_slots order (slots_of (place_of p))
      → AreOf slots_of (reverse (front ++ record { place = p; before = length order } ∷ [])) new
  come front p order new h e =
      let a : Access = record { place = p; before = length order } in
      let same : take (length order) new ≡ order = ap (λ (l : List ℕ). take (length order) l) e ∙ front_is order (slots_of (place_of p)) in
      subst (λ (accesses : List Access). AreOf slots_of accesses new) (sym (reverse-append front (a ∷ [])))
      (subst (λ (l : List ℕ). AreOf slots_of (reverse front) l) (sym same) h, e ∙ ap (λ (l : List ℕ). with_slots l (slots_of (place_of p))) (sym same))

  all_of : (accesses : List Access) (order : List ℕ) → AreOf slots_of accesses order → order ≡ with_slots [] (flat_map slots_of (map place_in (reverse accesses)))
  all_of [] order h = h
  all_of (a ∷ accesses) order h =
      let front = map place_in (reverse accesses) in
      let places : map place_in (reverse (a ∷ accesses)) ≡ front ++ place_in a ∷ [] = ap (map place_in) (reverse-append (a ∷ []) accesses) ∙ map-append place_in (reverse accesses) (a ∷ []) in
      let slots : flat_map slots_of (front ++ place_in a ∷ []) ≡ flat_map slots_of front ++ slots_of (place_in a) =
      flat_map-append slots_of front (place_in a ∷ []) ∙ ap (λ (l : List ℕ). flat_map slots_of front ++ l) (append-nil (slots_of (place_in a))) in
      h.1
      ∙ (ap (λ (l : List ℕ). with_slots l (slots_of (place_in a))) (all_of accesses (take a.before order) h.0)
      ∙ (sym (with_both [] (flat_map slots_of front) (slots_of (place_in a)))
      ∙ ap (with_slots []) (sym (ap (flat_map slots_of) places ∙ slots))))

  -- the slots that came are those of all places
  pub all_come : (accesses : List Access) (order : List ℕ) → AreOf slots_of (reverse accesses) order → order ≡ with_slots [] (flat_map slots_of (map place_in accesses))
  all_come accesses order h = all_of (reverse accesses) order h ∙ ap (λ (l : List Access). with_slots [] (flat_map slots_of (map place_in l))) (reverse-reverse accesses)

  -- ---- slots that have come

  pub take_front : (ss : List ℕ) (m n s : ℕ) → contains_number (take m (take n ss)) s ≡ true → contains_number (take m ss) s ≡ true
  take_front [] zero zero s h = h
  take_front [] zero (suc n) s h = h
  take_front [] (suc m) zero s h = h
  take_front [] (suc m) (suc n) s h = h
  take_front (t ∷ ts) zero zero s h = h
  take_front (t ∷ ts) zero (suc n) s h = h
  take_front (t ∷ ts) (suc m) zero s h = absurd (cc (h))
  take_front (t ∷ ts) (suc m) (suc n) s h = go (t == s) h (take_front ts m n s)
    where
      go : (b : Bool) → (b || contains_number (take m (take n ts)) s) ≡ true → (contains_number (take m (take n ts)) s ≡ true → contains_number (take m ts) s ≡ true) → (b || contains_number (take m ts) s) ≡ true
      go true h f = refl
      go false h f = f h

  with_slot_has : (order : List ℕ) (s t : ℕ) → contains_number order t ≡ true → contains_number (with_slot order s) t ≡ true
  with_slot_has order s t h = go (cases_Bool (contains_number order s))
    where
      go : (contains_number order s ≡ true) ⊎ (contains_number order s ≡ false) → contains_number (with_slot order s) t ≡ true
      go (inl e) = rw e h
      go (inr e) = rw e (contains_more order s t ∙ here (t == s))
        where
          here : (b : Bool) → (if b then true else contains_number order t) ≡ true
          here true = refl
          here false = h

  with_slot_new : (order : List ℕ) (s t : ℕ) → (s == t) ≡ true → contains_number (with_slot order s) t ≡ true
  with_slot_new order s t q = go (cases_Bool (contains_number order s))
    where
      go : (contains_number order s ≡ true) ⊎ (contains_number order s ≡ false) → contains_number (with_slot order s) t ≡ true
      go (inl e) = rw e (subst (λ (x : ℕ). contains_number order x ≡ true) (eqb-true s t q) e)
      go (inr e) = rw e (contains_more order s t ∙ ap (λ (b : Bool). if b then true else contains_number order t) (eq-eqb t s (sym (eqb-true s t q))))

  with_slots_has : (order ss : List ℕ) (t : ℕ) → contains_number order t ≡ true → contains_number (with_slots order ss) t ≡ true
  with_slots_has order [] t h = h
  with_slots_has order (s ∷ ss) t h = with_slots_has (with_slot order s) ss t (with_slot_has order s t h)

  with_slots_new : (order ss : List ℕ) (t : ℕ) → contains_number ss t ≡ true → contains_number (with_slots order ss) t ≡ true
  with_slots_new order [] t h = absurd (cc (h))
  with_slots_new order (s ∷ ss) t h = go (cases_Bool (s == t)) (with_slots_new (with_slot order s) ss t)
    where
      go : ((s == t) ≡ true) ⊎ ((s == t) ≡ false) → (contains_number ss t ≡ true → contains_number (with_slots (with_slot order s) ss) t ≡ true) → contains_number (with_slots (with_slot order s) ss) t ≡ true
      go (inl e) f = with_slots_has (with_slot order s) ss t (with_slot_new order s t e)
      go (inr e) f = f (sym (ap (λ (b : Bool). b || contains_number ss t) e) ∙ h)

  is_read_more : (ps : List SlotPlace) (q p : SlotPlace) → is_read p (ps ++ q ∷ []) ≡ true → (is_read p ps ≡ true) ⊎ (is_same_place q p ≡ true)
  is_read_more [] q p h = go (is_same_place q p) refl h
    where
      go : (b : Bool) → is_same_place q p ≡ b → (b || false) ≡ true → (false ≡ true) ⊎ (is_same_place q p ≡ true)
      go true e h = inr e
      go false e h = absurd (cc (h))
  is_read_more (r ∷ rs) q p h = go (is_same_place r p) h (is_read_more rs q p)
    where
      go : (b : Bool) → (b || is_read p (rs ++ q ∷ [])) ≡ true → (is_read p (rs ++ q ∷ []) ≡ true → (is_read p rs ≡ true) ⊎ (is_same_place q p ≡ true)) → ((b || is_read p rs) ≡ true) ⊎ (is_same_place q p ≡ true)
      go true h f = inl refl
      go false h f = f h

  -- the slots of all places have come
  pub all_there : (accesses : List Access) (order : List ℕ) → AreOf slots_of accesses order → HaveCome slots_of (map place_in (reverse accesses)) order
  all_there [] order a p s i h = absurd (cc (i))
  all_there (b ∷ accesses) order a p s i h =
      let more : map place_in (reverse (b ∷ accesses)) ≡ map place_in (reverse accesses) ++ place_in b ∷ [] = ap (map place_in) (reverse-append (b ∷ []) accesses) ∙ map-append place_in (reverse accesses) (b ∷ []) in
      ap (λ (l : List ℕ). contains_number l s) a.1 ∙ go (is_read_more (map place_in (reverse accesses)) (place_in b) p (sym (ap (is_read p) more) ∙ i)) (λ r. all_there accesses (take b.before order) a.0 p s r h)
    where
      go : (is_read p (map place_in (reverse accesses)) ≡ true) ⊎ (is_same_place (place_in b) p ≡ true) → (is_read p (map place_in (reverse accesses)) ≡ true → contains_number (take b.before order) s ≡ true)
          → contains_number (with_slots (take b.before order) (slots_of (place_in b))) s ≡ true
      go (inl r) f = with_slots_has (take b.before order) (slots_of (place_in b)) s (f r)
      go (inr e) f = with_slots_new (take b.before order) (slots_of (place_in b)) s (subst (λ (q : SlotPlace). contains_number (slots_of q) s ≡ true) (sym (same_places (place_in b) p e)) h)

  pub all_come_before : (accesses : List Access) (n : ℕ) (order : List ℕ) → length accesses ≤ n → AreOf slots_of (reverse accesses) order → HaveCome slots_of (take n (map place_in accesses)) order
  all_come_before accesses n order le a =
      subst (λ (ps : List SlotPlace). HaveCome slots_of ps order) (ap (map place_in) (reverse-reverse accesses ∙ sym (take_all n accesses le)) ∙ sym (take-map place_in n accesses)) (all_there (reverse accesses) order a)

  -- those of the places before one have come with them
  there_before : (later : List Access) (b : Access) (accesses : List Access) (order : List ℕ) → AreOf slots_of (later ++ b ∷ accesses) order → HaveCome slots_of (map place_in (reverse accesses)) (take b.before order)
  there_before [] b accesses order a = all_there accesses (take b.before order) a.0
  there_before (x ∷ later) b accesses order a = λ p s i h. take_front order b.before x.before s (there_before later b accesses (take x.before order) a.0 p s i h)

  pub come_before : (accesses : List Access) (n : ℕ) (other : Access) (order : List ℕ) → n < length accesses → AreOf slots_of (reverse accesses) order → HaveCome slots_of (take n (map place_in accesses)) (take (get_or accesses n other).before order)
  come_before accesses n other order lt a =
      let b = get_or accesses n other in
      let later = reverse (drop (n + 1) accesses) in
      let all : reverse accesses ≡ later ++ b ∷ reverse (take n accesses) = reverse_at accesses n other lt in
      subst (λ (ps : List SlotPlace). HaveCome slots_of ps (take b.before order)) (ap (map place_in) (reverse-reverse (take n accesses)) ∙ sym (take-map place_in n accesses))
      (there_before later b (reverse (take n accesses)) order (subst (λ (l : List Access). AreOf slots_of l order) all a))
