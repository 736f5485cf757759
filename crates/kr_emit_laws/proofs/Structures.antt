-- Structures: the objects that they name, and the slots that each has.
use Rattle.std.proofs.Common.{◌≡◌, ℕ, zero, suc, ◌+◌, ◌-◌, ◌<◌, ◌≤◌, ◌⊎◌, inl, inr, Bool, true, false, List, [], ◌∷◌, ◌++◌, length, get_or, Option, Some, None, refl, sym, ap, ◌∙◌, arith, subst}
use Rattle.std.specs.Prelude.{map, filter, flat_map, not, ◌==◌, if◌then◌else◌}
use Rattle.std.specs.List.{position_or_len, range_with_len}
use Rattle.std.proofs.lemmas.Bool.{cases_Bool, eq-eqb, eqb-true, ne_eqb}
use Rattle.std.proofs.lemmas.List.{map-append}
use Rattle.std.proofs.lemmas.List.Concat.{flat_map-append}
use Rattle.std.proofs.lemmas.List.Folds.{flat_map-map}
use Rattle.kr_value.specs.declared.object.Class.{Class}
use Rattle.kr_value.specs.declared.object.Spot.{Spot}
use Rattle.kr_value.specs.declared.value.Value.{Value}
use Rattle.kr_value.specs.declared.value.Value.TheVariants.{Int, Bool as Truth, Null, Ref as Reference}
use Rattle.kr_mean.specs.Entries.{structure_of}
use Rattle.kr_mean.specs.Heaps.{distinct, is_same_object, objects_of, root_slots, slots_in, walk, choice_at, value_at, met_within}
use Rattle.kr_mean.specs.Places.{SlotPlace, This, Parameter, At}
use Rattle.kr_mean.specs.Problem.{Problem, DomainObject, Choice, Slot, all_objects, choices_at, heap_number, object_choice, slot_at}
use Rattle.kr_mean.specs.Runs.{is_same_number}
use Rattle.kr_mean.specs.Space.{no_choice}
use Rattle.kr_mean.specs.WellFormed.{IsPlain, IsWellFormed}
use Rattle.kr_laws_runs.proofs.Respects.{AllOf}
use Rattle.kr_laws_pruning.proofs.Flattened.{flat_flat, flat_same, only_one}
use Rattle.kr_laws_pruning.proofs.Membership.{Has, has_append_right, has_map, has_range}
use Rattle.kr_laws_pruning.proofs.Numbering.{first_slot, parameters, parameter_slot, object_slot, width_at}
use Rattle.kr_laws_pruning.proofs.Places.{class_at, kind, one_object, same_object, same_objects, slots_in_are, spot_is, extent, extent_within}
use Rattle.kr_laws_pruning.proofs.Reached.{Apart, apart_distinct, has_distinct, has_flat, settled}
use Rattle.kr_laws_pruning.proofs.SlotForks.{all_append, all_distinct}
use Rattle.kr_laws_pruning.proofs.Spaces.{block_of, plain_choice}
use Rattle.kr_laws_pruning.proofs.Walked.{Below, Valid, met_valid, objects_there, walk_below, walked}
use Rattle.kr_emit_meaning.specs.Builders.{objects_in, referred}

-- ---- lists

pub flat_each : {A B : Type 0} (f g : A → List B) (xs : List A) → ((x : A) → f x ≡ g x) → flat_map f xs ≡ flat_map g xs
flat_each f g [] h = refl
flat_each f g (x ∷ xs) h = ap (λ y. y ++ flat_map f xs) (h x) ∙ ap (λ ys. g x ++ ys) (flat_each f g xs h)

flat_out : {A B C : Type 0} (f : B → C) (g : A → List B) (xs : List A) → flat_map (λ x. map f (g x)) xs ≡ map f (flat_map g xs)
flat_out f g [] = refl
flat_out f g (x ∷ xs) = ap (λ ys. map f (g x) ++ ys) (flat_out f g xs) ∙ sym (map-append f (g x) (flat_map g xs))

flat_ranges : {B : Type 0} (f g : ℕ → List B) (x a n : ℕ) → ((j : ℕ) → j < n → f (x + j) ≡ g (a + j)) → flat_map f (range_with_len x n) ≡ flat_map g (range_with_len a n)
flat_ranges f g x a zero h = refl
flat_ranges {B} f g x a (suc n) h =
    let zeros : (k : ℕ) → k + 0 ≡ k = λ k. omega arith in
    let first : f x ≡ g a = ap f (sym (zeros x)) ∙ (h 0 (omega arith) ∙ ap g (zeros a)) in
    let rest : flat_map f (range_with_len (x + 1) n) ≡ flat_map g (range_with_len (a + 1) n) = flat_ranges f g (x + 1) (a + 1) n (λ j l. let on : (k : ℕ) → k + 1 + j ≡ k + suc j = λ k. omega arith in ap f (on x) ∙ (h (suc j) (omega (arith, l)) ∙ sym (ap g (on a)))) in
    ap (λ (ys : List B). ys ++ flat_map f (range_with_len (x + 1) n)) first ∙ ap (λ (ys : List B). g a ++ ys) rest

-- each once, by other names
module _ {X Y : Type 0} (same : X → X → Bool) (same_name : Y → Y → Bool) (f : X → Y) (P : X → Type 0) (one : (x y : X) → P x → P y → same_name (f x) (f y) ≡ same x y) where
  filter_named : (x : X) (ys : List X) → P x → AllOf P ys → filter (λ y. not (same_name (f x) y)) (map f ys) ≡ map f (filter (λ y. not (same x y)) ys)
  filter_named x [] h a = refl
  filter_named x (y ∷ ys) h a = ap (λ (b : Bool). if not b then f y ∷ filter (λ y. not (same_name (f x) y)) (map f ys) else filter (λ y. not (same_name (f x) y)) (map f ys)) (one x y h a.0) ∙ go (same x y) (filter_named x ys h a.1)
    where
      go : (b : Bool) → filter (λ y. not (same_name (f x) y)) (map f ys) ≡ map f (filter (λ y. not (same x y)) ys)
          → (if not b then f y ∷ filter (λ y. not (same_name (f x) y)) (map f ys) else filter (λ y. not (same_name (f x) y)) (map f ys)) ≡ map f (if not b then y ∷ filter (λ y. not (same x y)) ys else filter (λ y. not (same x y)) ys)
      go true r = r
      go false r = ap (λ (l : List Y). f y ∷ l) r

  distinct_named : (xs : List X) → AllOf P xs → distinct same_name (map f xs) ≡ map f (distinct same xs)
  distinct_named [] a = refl
  distinct_named (x ∷ xs) a = ap (λ (l : List Y). f x ∷ filter (λ y. not (same_name (f x) y)) l) (distinct_named xs a.1) ∙ ap (λ (l : List Y). f x ∷ l) (filter_named x (distinct same xs) a.0 (all_distinct P same xs a.1))

-- ---- positions

abbrev position : ℕ → List ℕ → ℕ
position x xs = position_or_len (λ m. m == x) xs

pub position_at : (before : List ℕ) (x : ℕ) (after : List ℕ) → Apart (before ++ x ∷ after) → position_or_len (λ m. m == x) (before ++ x ∷ after) ≡ length before
position_at [] x after h = rw (eq-eqb x x refl) refl
position_at (m ∷ before) x after h =
    let other : (m == x) ≡ false = ne_eqb m x (λ e. h.0 (subst (λ (y : ℕ). Has y (before ++ x ∷ after)) (sym e) (has_append_right x before (x ∷ after) (inl refl)))) in
    ap (λ (b : Bool). let n : ℕ = if not b then 1 + position x (before ++ x ∷ after) else 0 in n) other ∙ omega (arith, position_at before x after h.1)

pub position_within : (xs : List ℕ) (x : ℕ) → Has x xs → position_or_len (λ m. m == x) xs < length xs
position_within [] x h = absurd h
position_within (m ∷ xs) x h = go (cases_Bool (m == x)) h (λ i. position_within xs x i)
  where
    go : ((m == x) ≡ true) ⊎ ((m == x) ≡ false) → Has x (m ∷ xs) → (Has x xs → position x xs < length xs) → position x (m ∷ xs) < length (m ∷ xs)
    go (inl e) i later = subst (λ (n : ℕ). n < suc (length xs)) (sym (ap (λ (b : Bool). let n : ℕ = if not b then 1 + position x xs else 0 in n) e)) (omega arith)
    go (inr e) (inl q) later = absurd (cc (e, eq-eqb m x q))
    go (inr e) (inr i) later = subst (λ (n : ℕ). n < suc (length xs)) (sym (ap (λ (b : Bool). let n : ℕ = if not b then 1 + position x xs else 0 in n) e)) (omega (arith, later i))

-- the objects of a structure are apart
pub objects_apart : (structure : List (ℕ × Value)) → Apart (objects_in structure)
objects_apart structure = apart_distinct is_same_number (λ x. eq-eqb x x refl) (flat_map (λ (p : ℕ × Value). referred p.1) structure)

module _ (problem : Problem) (w : IsWellFormed problem) (v : List ℕ) where
  abbrev N : ℕ
  N = length (all_objects problem)

  -- those that are reachable
  abbrev pub met : List DomainObject
  met = met_within problem v N

  abbrev number : DomainObject → ℕ
  number o = heap_number problem o

  pub all_valid : AllOf (Valid problem) met
  all_valid = met_valid problem v N

  pub apart : Apart met
  apart = subst Apart (settled problem w v) (apart_distinct is_same_object same_object (objects_there problem v (walked problem v N)))

  same_numbers : (x y : DomainObject) → Valid problem x → Valid problem y → is_same_number (number x) (number y) ≡ is_same_object x y
  same_numbers x y hx hy = go (cases_Bool (is_same_object x y))
    where
      go : (is_same_object x y ≡ true) ⊎ (is_same_object x y ≡ false) → is_same_number (number x) (number y) ≡ is_same_object x y
      go (inl e) = eq-eqb (number x) (number y) (ap number (same_objects x y e)) ∙ sym e
      go (inr e) =
          ne_eqb (number x) (number y) (λ q.
          let same : x ≡ y = one_object problem w x.domain x.number y.domain y.number hx.0 hx.1 hy.0 hy.1 q in
          absurd (cc (e, ap (λ (z : DomainObject). is_same_object x z) (sym same) ∙ same_object x)))
          ∙ sym e

  -- ---- the objects that a structure names

  plain_refers : (x : Value) → IsPlain x → referred x ≡ []
  plain_refers (Int n) h = refl
  plain_refers (Truth b) h = refl
  plain_refers Null h = refl
  plain_refers (Reference n) h = absurd h

  refers_at : (s : ℕ) → Below problem s → referred (value_at problem v s) ≡ map number (objects_of (choice_at problem v s).object)
  refers_at s h = go (choice_at problem v s).object refl
    where
      go : (x : Option DomainObject) → (choice_at problem v s).object ≡ x → referred (value_at problem v s) ≡ map number (objects_of x)
      go None e = plain_refers (value_at problem v s) (plain_choice problem (slot_at problem s).domain (get_or v s 0) (w.plain s h) e)
      go (Some o) e =
          let b = block_of problem (slot_at problem s).domain (get_or v s 0) o e in
          let i : get_or v s 0 - o.number + o.number ≡ get_or v s 0 = omega (arith, b.room) in
          let is : choice_at problem v s ≡ object_choice problem o = ap (λ (x : ℕ). get_or (choices_at problem s) x no_choice) (sym i) ∙ b.all o.number b.in_number in
          ap (λ (c : Choice). referred c.value) is

  there_valid : (ss : List ℕ) → AllOf (Valid problem) (objects_there problem v ss)
  there_valid [] = tt
  there_valid (s ∷ ss) = all_append (Valid problem) (objects_of (choice_at problem v s).object) (objects_there problem v ss) (go (choice_at problem v s).object refl) (there_valid ss)
    where
      go : (x : Option DomainObject) → (choice_at problem v s).object ≡ x → AllOf (Valid problem) (objects_of x)
      go None e = tt
      go (Some o) e = let b = block_of problem (slot_at problem s).domain (get_or v s 0) o e in ((b.in_domain, b.in_number), tt)

  pub objects_are : objects_in (structure_of problem v) ≡ map number met
  unfolding walk
  objects_are =
      ap (distinct is_same_number) (flat_map-map (λ (p : ℕ × Value). referred p.1) (λ (s : ℕ). (s, value_at problem v s)) (walked problem v N)
      ∙ (flat_same (λ s. referred (value_at problem v s)) (λ s. map number (objects_of (choice_at problem v s).object)) (Below problem) (walked problem v N) refers_at (walk_below problem w v N)
      ∙ flat_out number (λ s. objects_of (choice_at problem v s).object) (walked problem v N)))
      ∙ (distinct_named is_same_object is_same_number number (Valid problem) same_numbers (objects_there problem v (walked problem v N)) (there_valid (walked problem v N)) ∙ ap (map number) (settled problem w v))

  -- what a slot of the structure refers to is named
  pub named : (s n : ℕ) → Has s (walked problem v N) → value_at problem v s ≡ Reference n → Has n (objects_in (structure_of problem v))
  unfolding walk
  named s n h e =
      has_distinct is_same_number (λ x y. eqb-true x y) n (flat_map (λ (p : ℕ × Value). referred p.1) (structure_of problem v))
      (has_flat (λ (p : ℕ × Value). referred p.1) n (s, value_at problem v s) (structure_of problem v) (has_map (λ (s : ℕ). (s, value_at problem v s)) s (walked problem v N) h) (subst (λ (x : Value). Has n (referred x)) (sym e) (inl refl)))

  -- ---- slots of an object

  class_of : DomainObject → Class
  class_of o = class_at problem w o.domain

  pub slot_place : (o : DomainObject) → Valid problem o → (j : ℕ) → j < width_at problem o.domain → (slot_at problem (first_slot problem o.domain o.number + j)).place ≡ At (number o) (kind (class_at problem w o.domain) j)
  slot_place o h j l =
      ap (λ (s : Slot). s.place) (object_slot problem o.domain o.number j h.0 h.1 l).1
      ∙ ap (λ (spot : Spot). At (number o) spot) (spot_is problem w o.domain j h.0 l)

  pub slot_walked : (o : DomainObject) → Valid problem o → Has o met → (j : ℕ) → j < extent problem w v o.domain o.number → Has (first_slot problem o.domain o.number + j) (walked problem v N)
  slot_walked o h i j l =
      has_append_right (first_slot problem o.domain o.number + j) (root_slots problem) (flat_map (slots_in problem v) met) (has_flat (slots_in problem v) (first_slot problem o.domain o.number + j) o met i
      (subst (Has (first_slot problem o.domain o.number + j)) (sym (slots_in_are problem w v o.domain o.number h.0 h.1)) (has_range (first_slot problem o.domain o.number) (extent problem w v o.domain o.number) (first_slot problem o.domain o.number + j) (omega arith) (omega (arith, l)))))

  -- what is made of a slot's place and value
  module _ {B : Type 0} (f : Value → SlotPlace → List B) (no_this : (x : Value) → f x This ≡ []) (no_parameter : (x : Value) (i : ℕ) → f x (Parameter i) ≡ []) where
    abbrev at_slot : ℕ → List B
    at_slot s = f (value_at problem v s) (slot_at problem s).place

    -- at the slots of an object
    abbrev pub of_object : DomainObject → List B
    of_object o = flat_map (λ j. f (value_at problem v (first_slot problem o.domain o.number + j)) (At (number o) (kind (class_at problem w o.domain) j))) (range_with_len 0 (extent problem w v o.domain o.number))

    at_roots : (a m : ℕ) → a + m ≤ parameters problem + 1 → flat_map at_slot (range_with_len a m) ≡ []
    at_roots a zero h = refl
    at_roots zero (suc m) h = ap (λ (l : List B). l ++ flat_map at_slot (range_with_len 1 m)) (no_this (value_at problem v 0)) ∙ at_roots 1 m (omega (arith, h))
    at_roots (suc a) (suc m) h =
        let e : suc a ≡ a + 1 = omega arith in
        let place : (slot_at problem (suc a)).place ≡ Parameter a = ap (λ (x : ℕ). (slot_at problem x).place) e ∙ ap (λ (x : Slot). x.place) (parameter_slot problem a (omega (arith, h))).1 in
        let none : at_slot (suc a) ≡ [] = ap (λ (p : SlotPlace). f (value_at problem v (suc a)) p) place ∙ no_parameter (value_at problem v (suc a)) a in
        ap (λ (l : List B). l ++ flat_map at_slot (range_with_len (suc a + 1) m)) none ∙ at_roots (suc a + 1) m (omega (arith, h))

    at_object : (o : DomainObject) → Valid problem o → flat_map at_slot (slots_in problem v o) ≡ of_object o
    at_object o h =
        let x : ℕ = first_slot problem o.domain o.number in
        let n : ℕ = extent problem w v o.domain o.number in
        ap (flat_map at_slot) (slots_in_are problem w v o.domain o.number h.0 h.1)
        ∙ flat_ranges at_slot (λ j. f (value_at problem v (x + j)) (At (number o) (kind (class_at problem w o.domain) j))) x 0 n (λ j l.
        let z : 0 + j ≡ j = omega arith in
        ap (f (value_at problem v (x + j))) (slot_place o h j (omega (arith, l, extent_within problem w v o.domain o.number h.0 h.1)))
        ∙ ap (λ (i : ℕ). f (value_at problem v (x + i)) (At (number o) (kind (class_at problem w o.domain) i))) (sym z))

    -- object by object
    pub by_objects : flat_map (λ (p : ℕ × Value). f p.1 (slot_at problem p.0).place) (structure_of problem v) ≡ flat_map of_object met
    unfolding walk
    by_objects =
        flat_map-map (λ (p : ℕ × Value). f p.1 (slot_at problem p.0).place) (λ (s : ℕ). (s, value_at problem v s)) (walked problem v N)
        ∙ (flat_map-append at_slot (root_slots problem) (flat_map (slots_in problem v) met)
        ∙ (ap (λ (l : List B). l ++ flat_map at_slot (flat_map (slots_in problem v) met)) (at_roots 0 (parameters problem + 1) (omega arith))
        ∙ (flat_flat at_slot (slots_in problem v) met ∙ flat_same (λ o. flat_map at_slot (slots_in problem v o)) of_object (Valid problem) met at_object all_valid)))

  -- what is made of the spots of one object
  module _ {B : Type 0} (f : Value → Spot → List B) where
    abbrev pub picked : ℕ → Value → SlotPlace → List B
    picked n x (At p spot) = if p == n then f x spot else []
    picked n x This = []
    picked n x (Parameter i) = []

    abbrev pub spots_of : DomainObject → List B
    spots_of o = flat_map (λ j. f (value_at problem v (first_slot problem o.domain o.number + j)) (kind (class_at problem w o.domain) j)) (range_with_len 0 (extent problem w v o.domain o.number))

    by_number : (b : Bool) (js : List ℕ) (g : ℕ → List B) → flat_map (λ j. if b then g j else []) js ≡ (if b then flat_map g js else [])
    by_number true js g = refl
    by_number false [] g = refl
    by_number false (j ∷ js) g = by_number false js g

    of_other : (o m : DomainObject) → Valid problem o → Valid problem m → of_object (picked (number o)) (λ x. refl) (λ x i. refl) m ≡ (if is_same_object o m then spots_of m else [])
    of_other o m ho hm =
        by_number (number m == number o) (range_with_len 0 (extent problem w v m.domain m.number)) (λ j. f (value_at problem v (first_slot problem m.domain m.number + j)) (kind (class_at problem w m.domain) j))
        ∙ ap (λ (b : Bool). let l : List B = if b then spots_of m else [] in l) (turned (same_numbers m o hm ho))
      where
        turned : is_same_number (number m) (number o) ≡ is_same_object m o → (number m == number o) ≡ is_same_object o m
        turned e = e ∙ go (cases_Bool (is_same_object m o)) (cases_Bool (is_same_object o m))
          where
            go : (is_same_object m o ≡ true) ⊎ (is_same_object m o ≡ false) → (is_same_object o m ≡ true) ⊎ (is_same_object o m ≡ false) → is_same_object m o ≡ is_same_object o m
            go (inl a) (inl b) = a ∙ sym b
            go (inr a) (inr b) = a ∙ sym b
            go (inl a) (inr b) = let q : m ≡ o = same_objects m o a in absurd (cc (b, ap (λ (z : DomainObject). is_same_object o z) q ∙ same_object o))
            go (inr a) (inl b) = let q : o ≡ m = same_objects o m b in absurd (cc (a, ap (λ (z : DomainObject). is_same_object m z) q ∙ same_object m))

    pub of_one : (o : DomainObject) → Valid problem o → Has o met → flat_map (λ (p : ℕ × Value). picked (number o) p.1 (slot_at problem p.0).place) (structure_of problem v) ≡ spots_of o
    of_one o h i =
        by_objects (picked (number o)) (λ x. refl) (λ x i. refl)
        ∙ (flat_same (of_object (picked (number o)) (λ x. refl) (λ x i. refl)) (λ m. if is_same_object o m then spots_of m else []) (Valid problem) met (λ m k. of_other o m h k) all_valid ∙ only_one spots_of o met apart i)
