-- Renamed vectors: the plain function gives one, and the indices that renamings give along an order.
use Rattle.std.proofs.Common.{◌≡◌, ℕ, zero, suc, ◌+◌, ◌-◌, ◌*◌, ◌<◌, ◌≤◌, ◌⊎◌, inl, inr, List, [], ◌∷◌, refl, sym, ap, ◌∙◌, subst, arith, get_or, Bool, true, false, Option, Some, None}
use Rattle.std.specs.Prelude.{◌==◌, ◌&&◌}
use Rattle.std.specs.List.{range_with_len}
use Rattle.std.proofs.lemmas.List.FromFn.{length-map-range_with_len, get_or-map-range_with_len}
use Rattle.std.proofs.lemmas.Bool.{eq-eqb, eqb-true, and_parts, cases_Bool}
use Rattle.kr_value.specs.declared.object.Spot.{Spot}
use Rattle.kr_value.specs.declared.object.Spot.TheVariants.{Field, Length, Element}
use Rattle.kr_mean.specs.Places.{SlotPlace, This, Parameter, At}
use Rattle.kr_mean.specs.Problem.{DomainObject, upto}
use Rattle.kr_mean.specs.Space.{Space, IsVector, IsRenaming, IsRenamed, IsRenamedSlot, IsRenamedIndex, IsSameSpot, renamed_object, renamed_owner}
use Rattle.kr_mean.specs.Blocks.{IsSpace, IsBlock, on_slot, on_index}
use Rattle.kr_mean.specs.Readings.{AllBelow}
use Rattle.kr_mean.specs.Runs.{is_same_spot}
use Rattle.kr_mean.specs.Entries.{are_same_objects, is_at_same_spot, is_renamed_slot, is_renamed_index, first_that, renamed_from, renamed_at, renamed}
use Rattle.kr_iso.proofs.Least.{renamed_along}
use Rattle.kr_iso.proofs.Moves.{lands, turns, one_source, one_target}
use Rattle.kr_laws_pruning.proofs.Places.{same_objects, same_object}

-- ---- tests and the relations that they decide

objects_are : (x y : Option DomainObject) → are_same_objects x y ≡ true → x ≡ y
objects_are None None e = refl
objects_are None (Some p) e = absurd (cc (e))
objects_are (Some o) None e = absurd (cc (e))
objects_are (Some o) (Some p) e = ap (λ (q : DomainObject). Some q) (same_objects o p e)

objects_self : (x : Option DomainObject) → are_same_objects x x ≡ true
objects_self None = refl
objects_self (Some o) = same_object o

objects_pass : (x y : Option DomainObject) → x ≡ y → are_same_objects x y ≡ true
objects_pass x y e = subst (λ (z : Option DomainObject). are_same_objects x z ≡ true) e (objects_self x)

spot_is : (x y : Spot) → is_same_spot x y ≡ true → x ≡ y
spot_is (Field f) (Field g) e = ap (λ (n : ℕ). Field n) (eqb-true f g e)
spot_is (Element f) (Element g) e = ap (λ (n : ℕ). Element n) (eqb-true f g e)
spot_is Length Length e = refl
spot_is (Field f) Length e = absurd (cc (e))
spot_is (Field f) (Element k) e = absurd (cc (e))
spot_is Length (Field g) e = absurd (cc (e))
spot_is Length (Element k) e = absurd (cc (e))
spot_is (Element k) (Field g) e = absurd (cc (e))
spot_is (Element k) Length e = absurd (cc (e))

spot_self : (x : Spot) → is_same_spot x x ≡ true
spot_self (Field f) = eq-eqb f f refl
spot_self Length = refl
spot_self (Element k) = eq-eqb k k refl

place_is : (p q : SlotPlace) → is_at_same_spot p q ≡ true → IsSameSpot p q
place_is This This e = tt
place_is This (Parameter j) e = absurd (cc (e))
place_is This (At p y) e = absurd (cc (e))
place_is (Parameter i) This e = absurd (cc (e))
place_is (Parameter i) (Parameter j) e = eqb-true i j e
place_is (Parameter i) (At p y) e = absurd (cc (e))
place_is (At o x) This e = absurd (cc (e))
place_is (At o x) (Parameter j) e = absurd (cc (e))
place_is (At o x) (At p y) e = spot_is x y e

place_passes : (p q : SlotPlace) → IsSameSpot p q → is_at_same_spot p q ≡ true
place_passes This This h = refl
place_passes This (Parameter j) h = absurd h
place_passes This (At p y) h = absurd h
place_passes (Parameter i) This h = absurd h
place_passes (Parameter i) (Parameter j) h = eq-eqb i j h
place_passes (Parameter i) (At p y) h = absurd h
place_passes (At o x) This h = absurd h
place_passes (At o x) (Parameter j) h = absurd h
place_passes (At o x) (At p y) h = subst (λ (z : Spot). is_same_spot x z ≡ true) h (spot_self x)

slot_is : (space : Space) (name : ℕ → ℕ → ℕ) (s t : ℕ) → is_renamed_slot space name s t ≡ true → IsRenamedSlot space name s t
slot_is space name s t e =
    let r = and_parts (are_same_objects (space.owner t) (renamed_owner name (space.owner s))) (is_at_same_spot (space.place s) (space.place t)) e in
    record { owner = objects_are (space.owner t) (renamed_owner name (space.owner s)) r.0; spot = place_is (space.place s) (space.place t) r.1 }

slot_passes : (space : Space) (name : ℕ → ℕ → ℕ) (s t : ℕ) → IsRenamedSlot space name s t → is_renamed_slot space name s t ≡ true
slot_passes space name s t a =
    ap (λ (b : Bool). b && is_at_same_spot (space.place s) (space.place t)) (objects_pass (space.owner t) (renamed_owner name (space.owner s)) a.owner) ∙ place_passes (space.place s) (space.place t) a.spot

index_is : (space : Space) (name : ℕ → ℕ → ℕ) (x : Option DomainObject) (s i t j : ℕ) → is_renamed_index space name x s i t j ≡ true → IsRenamedIndex space name x s i t j
index_is space name None s i t j e = eqb-true j i e
index_is space name (Some o) s i t j e =
    let r = and_parts (are_same_objects (space.object_at t j) (Some (renamed_object name o))) (space.item t j == space.item s i) e in
    (objects_are (space.object_at t j) (Some (renamed_object name o)) r.0, eqb-true (space.item t j) (space.item s i) r.1)

index_passes : (space : Space) (name : ℕ → ℕ → ℕ) (x : Option DomainObject) (s i t j : ℕ) → IsRenamedIndex space name x s i t j → is_renamed_index space name x s i t j ≡ true
index_passes space name None s i t j a = eq-eqb j i a
index_passes space name (Some o) s i t j a =
    ap (λ (b : Bool). b && (space.item t j == space.item s i)) (objects_pass (space.object_at t j) (Some (renamed_object name o)) a.0) ∙ eq-eqb (space.item t j) (space.item s i) a.1

-- ---- the first that passes

record Found (p : ℕ → Bool) (a m : ℕ) : Type 0 where
  passes : p (first_that p (range_with_len a m)) ≡ true
  within : first_that p (range_with_len a m) < a + m

found : (p : ℕ → Bool) (a m x : ℕ) → a ≤ x → x < a + m → p x ≡ true → Found p a m
found p a zero x l h e = absurd (omega (arith, l, h))
found p a (suc m) x l h e = go (cases_Bool (p a)) (λ lt. found p (a + 1) m x (omega (arith, lt)) (omega (arith, h)) e)
  where
    go : (p a ≡ true) ⊎ (p a ≡ false) → (a < x → Found p (a + 1) m) → Found p a (suc m)
    go (inl t) f = record { passes = rw t t; within = rw t (omega arith) }
    go (inr t) f =
        let r = f (cc_less a x l (λ q. cc (t, e, q))) in
        let w = r.within in
        record { passes = rw t r.passes; within = rw t (omega (arith, w)) }
      where
        cc_less : (y z : ℕ) → y ≤ z → (y ≡ z → ⊥) → y < z
        cc_less y z le ne = grind arith

first_within : (p : ℕ → Bool) (a m n : ℕ) → a + m ≤ n → 0 < n → first_that p (range_with_len a m) < n
first_within p a zero n l h = h
first_within p a (suc m) n l h = go (cases_Bool (p a)) (first_within p (a + 1) m n (omega (arith, l)) h)
  where
    go : (p a ≡ true) ⊎ (p a ≡ false) → first_that p (range_with_len (a + 1) m) < n → first_that p (range_with_len a (suc m)) < n
    go (inl t) r = rw t (omega (arith, l))
    go (inr t) r = rw t r

-- ---- the plain function renames

module _ (space : Space) (is : IsSpace space) (name : ℕ → ℕ → ℕ) (n : IsRenaming space name) where
  -- the index that is found at a renamed slot
  found_from : (v : List ℕ) → IsVector space v → (s t : ℕ) → s < space.slots → t < space.slots → IsRenamedSlot space name s t → IsRenamedIndex space name (space.object_at s (get_or v s 0)) s (get_or v s 0) t (renamed_from space name v s t)
  found_from v iv s t hs ht a =
      let i : ℕ = get_or v s 0 in
      let x : Option DomainObject = space.object_at s i in
      let l = lands space is name n s hs in
      let g = turns space is name n s i hs (iv.within s hs) in
      let e : t ≡ on_slot space name s = one_target space is name n s t hs ht a in
      let j : ℕ = on_index space name s i in
      let here : IsRenamedIndex space name x s i t j = subst (λ (y : ℕ). IsRenamedIndex space name x s i y j) (sym e) g.renamed in
      let size : space.size t ≡ space.size s = ap space.size e ∙ l.size in
      let room : j < space.size t = subst (λ (m : ℕ). j < m) (sym size) g.within in
      let f = found (is_renamed_index space name x s i t) 0 (space.size t) j (omega arith) (omega (arith, room)) (index_passes space name x s i t j here) in
      index_is space name x s i t (renamed_from space name v s t) f.passes

  found_at : (v : List ℕ) → IsVector space v → (s t : ℕ) → s < space.slots → t < space.slots → IsRenamedSlot space name s t → IsRenamedIndex space name (space.object_at s (get_or v s 0)) s (get_or v s 0) t (renamed_at space name v t)
  found_at v iv s t hs ht a =
      let p : ℕ → Bool = λ r. is_renamed_slot space name r t in
      let f = found p 0 space.slots s (omega arith) (omega (arith, hs)) (slot_passes space name s t a) in
      let first : ℕ = first_that p (upto space.slots) in
      let same : first ≡ s = one_source space is name n first s t (let h = f.within in omega (arith, h)) hs (slot_is space name first t f.passes) a in
      subst (λ (r : ℕ). IsRenamedIndex space name (space.object_at s (get_or v s 0)) s (get_or v s 0) t (renamed_from space name v r t)) (sym same) (found_from v iv s t hs ht a)

  pub renamed_is_renamed : (v : List ℕ) → IsVector space v → IsRenamed space name v (renamed space name v)
  renamed_is_renamed v iv = record {
    vector = record {
      long = length-map-range_with_len (renamed_at space name v) 0 space.slots;
      within = λ t h. subst (λ (x : ℕ). x < space.size t) (sym (at t h)) (first_within _ 0 (space.size t) (space.size t) (omega arith) (is.filled t h));
    };
    values = λ s t hs ht a. subst (IsRenamedIndex space name (space.object_at s (get_or v s 0)) s (get_or v s 0) t) (sym (at t ht)) (found_at v iv s t hs ht a);
  }
    where
      at : (t : ℕ) → t < space.slots → get_or (renamed space name v) t 0 ≡ renamed_at space name v t
      at t h = get_or-map-range_with_len (renamed_at space name v) 0 space.slots t t 0 h (omega arith)

-- names that agree on the objects give the same indices
index_same : (space : Space) → IsSpace space → (f g : ℕ → ℕ → ℕ) → ((c k : ℕ) → c < space.domains → k < space.count c → f c k ≡ g c k) → (s i : ℕ) → s < space.slots → i < space.size s → (x : Option DomainObject) → space.object_at s i ≡ x → on_index space f s i ≡ on_index space g s i
index_same space is f g h s i hs hi None e = rw e refl
index_same space is f g h s i hs hi (Some o) e =
    let b : IsBlock space s i o = is.blocks s i o hs hi e in
    rw e (ap (λ (m : ℕ). i - o.number * 1 + m * 1) (h o.domain o.number b.domain b.number))

pub along_same : (space : Space) → IsSpace space → (f g : ℕ → ℕ → ℕ) → ((c k : ℕ) → c < space.domains → k < space.count c → f c k ≡ g c k) → (v : List ℕ) → IsVector space v → (order : List ℕ) → AllBelow space.slots order → renamed_along space f v order ≡ renamed_along space g v order
along_same space is f g h v iv [] b = refl
along_same space is f g h v iv (s ∷ ss) b =
    ap (λ (x : ℕ). x ∷ renamed_along space f v ss) (index_same space is f g h s (get_or v s 0) b.0 (iv.within s b.0) (space.object_at s (get_or v s 0)) refl) ∙ ap (λ (l : List ℕ). on_index space g s (get_or v s 0) ∷ l) (along_same space is f g h v iv ss b.1)
