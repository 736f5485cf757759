-- Slots that come one after another are the distinct ones of all that came.
use Rattle.std.proofs.Common.{◌≡◌, ℕ, ◌⊎◌, inl, inr, Bool, true, false, List, [], ◌∷◌, ◌++◌, refl, sym, ap, ◌∙◌, subst}
use Rattle.std.specs.Prelude.{filter, flat_map, not, ◌||◌, ◌==◌, if◌then◌else◌}
use Rattle.std.proofs.lemmas.Bool.{eq-eqb, eqb-true, and_parts, cases_Bool}
use Rattle.std.proofs.lemmas.List.{append-nil, append_assoc}
use Rattle.std.proofs.lemmas.List.Concat.{flat_map-append}
use Rattle.kr_value.specs.declared.object.Spot.{Spot}
use Rattle.kr_mean.specs.Heaps.{distinct}
use Rattle.kr_mean.specs.Places.{SlotPlace, This, Parameter, At}
use Rattle.kr_mean.specs.Runs.{contains_number, is_same_number, is_same_place, is_same_spot}
use Rattle.kr_laws_pruning.proofs.Membership.{Has}
use Rattle.kr_laws_pruning.proofs.Reached.{has_flat}
use Rattle.kr_laws_pruning.proofs.SlotForks.{added, distinct_append}
use Rattle.kr_run_state.specs.Noting.{is_read, with_read, noted_once}
use Rattle.kr_space_layout.specs.Marks.{IsMarked}
use Rattle.kr_judge.specs.Orders.{AreMarked, with_slot, with_slots}
use Rattle.kr_laws_pruning.proofs.Places.{same_spots}

pub with_both : (order xs ys : List ℕ) → with_slots order (xs ++ ys) ≡ with_slots (with_slots order xs) ys
with_both order [] ys = refl
with_both order (x ∷ xs) ys = with_both (with_slot order x) xs ys

-- ---- one more slot

-- a slot, unless it is there
abbrev unless_there : Bool → ℕ → List ℕ
unless_there true s = []
unless_there false s = s ∷ []

added_one : (ss : List ℕ) (s : ℕ) → added is_same_number ss (s ∷ []) ≡ unless_there (contains_number ss s) s
added_one [] s = refl
added_one (t ∷ ts) s = ap (filter (λ y. not (t == y))) (added_one ts s) ∙ go (t == s) (contains_number ts s) refl
  where
    go : (b c : Bool) → (t == s) ≡ b → filter (λ y. not (t == y)) (unless_there c s) ≡ unless_there (b || c) s
    go true true e = refl
    go false true e = refl
    go true false e = rw e refl
    go false false e = rw e refl

in_filter : (t s : ℕ) (ss : List ℕ) → (t == s) ≡ false → contains_number (filter (λ y. not (t == y)) ss) s ≡ contains_number ss s
in_filter t s [] e = refl
in_filter t s (u ∷ us) e = go (cases_Bool (t == u)) (cases_Bool (u == s)) (in_filter t s us e)
  where
    go : ((t == u) ≡ true) ⊎ ((t == u) ≡ false) → ((u == s) ≡ true) ⊎ ((u == s) ≡ false) → contains_number (filter (λ y. not (t == y)) us) s ≡ contains_number us s
        → contains_number (filter (λ y. not (t == y)) (u ∷ us)) s ≡ contains_number (u ∷ us) s
    go (inl a) (inl b) r = absurd (cc (eq-eqb t s (eqb-true t u a ∙ eqb-true u s b), e))
    go (inl a) (inr b) r = rw (a, b) r
    go (inr a) (inl b) r = rw (a, b) refl
    go (inr a) (inr b) r = rw (a, b) r

in_distinct : (s : ℕ) (ss : List ℕ) → contains_number (distinct is_same_number ss) s ≡ contains_number ss s
in_distinct s [] = refl
in_distinct s (t ∷ ts) = go (cases_Bool (t == s)) (in_distinct s ts)
  where
    go : ((t == s) ≡ true) ⊎ ((t == s) ≡ false) → contains_number (distinct is_same_number ts) s ≡ contains_number ts s → contains_number (distinct is_same_number (t ∷ ts)) s ≡ contains_number (t ∷ ts) s
    go (inl e) r = rw e refl
    go (inr e) r = rw e (in_filter t s (distinct is_same_number ts) e ∙ r)

one_more : (xs : List ℕ) (s : ℕ) → with_slot (distinct is_same_number xs) s ≡ distinct is_same_number (xs ++ s ∷ [])
one_more xs s =
    ap (λ (b : Bool). if b then distinct is_same_number xs else distinct is_same_number xs ++ s ∷ []) (in_distinct s xs)
    ∙ (go (contains_number xs s) ∙ sym (distinct_append is_same_number xs (s ∷ []) ∙ ap (λ (l : List ℕ). distinct is_same_number xs ++ l) (added_one xs s)))
  where
    go : (b : Bool) → (if b then distinct is_same_number xs else distinct is_same_number xs ++ s ∷ []) ≡ distinct is_same_number xs ++ unless_there b s
    go true = sym (append-nil (distinct is_same_number xs))
    go false = refl

with_more : (xs ys : List ℕ) → with_slots (distinct is_same_number xs) ys ≡ distinct is_same_number (xs ++ ys)
with_more xs [] = ap (distinct is_same_number) (sym (append-nil xs))
with_more xs (y ∷ ys) =
    ap (λ (l : List ℕ). with_slots l ys) (one_more xs y)
    ∙ (with_more (xs ++ y ∷ []) ys ∙ ap (distinct is_same_number) (append_assoc xs (y ∷ []) ys))

-- all slots that come, each once
pub with_all : (xs : List ℕ) → with_slots [] xs ≡ distinct is_same_number xs
with_all xs = with_more [] xs

-- ---- marks

pub contains_more : (order : List ℕ) (s t : ℕ) → contains_number (order ++ s ∷ []) t ≡ (if t == s then true else contains_number order t)
contains_more [] s t = go (cases_Bool (s == t)) (cases_Bool (t == s))
  where
    go : ((s == t) ≡ true) ⊎ ((s == t) ≡ false) → ((t == s) ≡ true) ⊎ ((t == s) ≡ false) → contains_number (s ∷ []) t ≡ (if t == s then true else false)
    go (inl a) (inl b) = rw (a, b) refl
    go (inr a) (inr b) = rw (a, b) refl
    go (inl a) (inr b) = absurd (cc (eq-eqb t s (sym (eqb-true s t a)), b))
    go (inr a) (inl b) = absurd (cc (eq-eqb s t (sym (eqb-true t s b)), a))
contains_more (u ∷ us) s t = ap (λ (b : Bool). (u == t) || b) (contains_more us s t) ∙ go (u == t) (t == s)
  where
    go : (a b : Bool) → (a || (if b then true else contains_number us t)) ≡ (if b then true else (a || contains_number us t))
    go true true = refl
    go true false = refl
    go false true = refl
    go false false = refl

pub marked_more : (old new : List Bool) (order : List ℕ) (s : ℕ) → AreMarked old order → IsMarked old s new → AreMarked new (order ++ s ∷ [])
marked_more old new order s a h = λ t. h t ∙ (ap (λ (b : Bool). if t == s then true else b) (a t) ∙ sym (contains_more order s t))

-- ---- slots that are there already

kept_one : (order : List ℕ) (s t : ℕ) → contains_number order t ≡ true → contains_number (with_slot order s) t ≡ true
kept_one order s t h = go (contains_number order s)
  where
    both : (b : Bool) → (if b then true else true) ≡ true
    both true = refl
    both false = refl

    go : (b : Bool) → contains_number (if b then order else order ++ s ∷ []) t ≡ true
    go true = h
    go false = contains_more order s t ∙ (ap (λ (b : Bool). if t == s then true else b) h ∙ both (t == s))

kept : (order ss : List ℕ) (t : ℕ) → contains_number order t ≡ true → contains_number (with_slots order ss) t ≡ true
kept order [] t h = h
kept order (s ∷ ss) t h = kept (with_slot order s) ss t (kept_one order s t h)

there : (order : List ℕ) (s : ℕ) → contains_number (with_slot order s) s ≡ true
there order s = go (cases_Bool (contains_number order s))
  where
    go : (contains_number order s ≡ true) ⊎ (contains_number order s ≡ false) → contains_number (with_slot order s) s ≡ true
    go (inl e) = rw e e
    go (inr e) = rw e (let i : (s == s) ≡ true = eq-eqb s s refl in contains_more order s s ∙ rw i refl)

comes : (order ss : List ℕ) (t : ℕ) → Has t ss → contains_number (with_slots order ss) t ≡ true
comes order [] t h = absurd h
comes order (s ∷ ss) t (inl e) = kept (with_slot order s) ss t (subst (λ (x : ℕ). contains_number (with_slot order s) x ≡ true) e (there order s))
comes order (s ∷ ss) t (inr h) = comes (with_slot order s) ss t h

none_new : (order ss : List ℕ) → ((s : ℕ) → Has s ss → contains_number order s ≡ true) → with_slots order ss ≡ order
none_new order [] h = refl
none_new order (s ∷ ss) h =
    let e : contains_number order s ≡ true = h s (inl refl) in
    let same : with_slot order s ≡ order = rw e refl in
    ap (λ (l : List ℕ). with_slots l ss) same ∙ none_new order ss (λ t i. h t (inr i))

-- ---- places

pub same_places : (p q : SlotPlace) → is_same_place p q ≡ true → p ≡ q
same_places This This e = refl
same_places (Parameter i) (Parameter j) e = ap (λ (n : ℕ). Parameter n) (eqb-true i j e)
same_places (At o s) (At p t) e =
    let r = and_parts (o == p) (is_same_spot s t) e in
    ap (λ (n : ℕ). At n s) (eqb-true o p r.0) ∙ ap (λ (x : Spot). At p x) (same_spots s t r.1)
same_places This (Parameter j) e = absurd (cc (e))
same_places This (At p t) e = absurd (cc (e))
same_places (Parameter i) This e = absurd (cc (e))
same_places (Parameter i) (At p t) e = absurd (cc (e))
same_places (At o s) This e = absurd (cc (e))
same_places (At o s) (Parameter j) e = absurd (cc (e))

read_has : (p : SlotPlace) (seen : List SlotPlace) → is_read p seen ≡ true → Has p seen
read_has p [] e = absurd (cc (e))
read_has p (q ∷ qs) e = go (cases_Bool (is_same_place q p)) (read_has p qs)
  where
    go : (is_same_place q p ≡ true) ⊎ (is_same_place q p ≡ false) → (is_read p qs ≡ true → Has p qs) → Has p (q ∷ qs)
    go (inl s) r = inl (same_places q p s)
    go (inr s) r = inr (r (ap (λ (b : Bool). b || is_read p qs) (sym s) ∙ e))

-- the slots of places that were read, each once, are those of each place once
module _ (slots_for : SlotPlace → List ℕ) where
  one_place : (seen : List SlotPlace) (p : SlotPlace) → with_slots [] (flat_map slots_for (with_read seen p)) ≡ with_slots (with_slots [] (flat_map slots_for seen)) (slots_for p)
  one_place seen p = go (cases_Bool (is_read p seen))
    where
      all : List ℕ
      all = flat_map slots_for seen

      go : (is_read p seen ≡ true) ⊎ (is_read p seen ≡ false) → with_slots [] (flat_map slots_for (with_read seen p)) ≡ with_slots (with_slots [] all) (slots_for p)
      go (inl e) = rw e (sym (none_new (with_slots [] all) (slots_for p) (λ s h. comes [] all s (has_flat slots_for s p seen (read_has p seen e) h))))
      go (inr e) = rw e (ap (with_slots []) (flat_map-append slots_for seen (p ∷ []) ∙ ap (λ (l : List ℕ). all ++ l) (append-nil (slots_for p))) ∙ with_both [] all (slots_for p))

  pub once : (seen ps : List SlotPlace) → with_slots [] (flat_map slots_for (noted_once seen ps)) ≡ with_slots (with_slots [] (flat_map slots_for seen)) (flat_map slots_for ps)
  once seen [] = refl
  once seen (p ∷ ps) =
      once (with_read seen p) ps
      ∙ (ap (λ (l : List ℕ). with_slots l (flat_map slots_for ps)) (one_place seen p)
      ∙ sym (with_both (with_slots [] (flat_map slots_for seen)) (slots_for p) (flat_map slots_for ps)))
