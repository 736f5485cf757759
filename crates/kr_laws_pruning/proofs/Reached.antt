-- A walk as long as there are objects meets all that can be met.
use Rattle.std.proofs.Common.{◌≡◌, ℕ, zero, suc, ◌+◌, ◌-◌, ◌<◌, ◌≤◌, ◌⊎◌, inl, inr, Bool, true, false, List, [], ◌∷◌, ◌++◌, length, get_or, Option, Some, None, refl, sym, ap, ◌∙◌, arith, subst}
use Rattle.std.specs.Prelude.{map, filter, flat_map, not, ◌==◌, if◌then◌else◌}
use Rattle.std.proofs.lemmas.List.{append-nil, length-append, length-map}
use Rattle.std.proofs.lemmas.Bool.{eq-eqb, eqb-true, cases_Bool}
use Rattle.kr_mean.specs.Problem.{Problem, DomainObject, Choice, slots, slot_at, all_objects, heap_number, object_choice, choices_in}
use Rattle.kr_mean.specs.Space.{no_choice}
use Rattle.kr_mean.specs.Heaps.{distinct, value_at, choice_at, is_same_object, slots_in, objects_of, objects_at, root_slots, met_within}
use Rattle.kr_mean.specs.Readings.{Differ}
use Rattle.kr_mean.specs.WellFormed.{IsPlain, IsWellFormed}
use Rattle.kr_value.specs.declared.value.Value.{Value}
use Rattle.kr_value.specs.declared.value.Value.TheVariants.{Int, Bool as Truth, Null, Ref as Reference}
use Rattle.kr_laws_pruning.proofs.Membership.{Has, has_append_left, has_append_right, has_map_from, has_filter, has_filter_from, has_range}
use Rattle.kr_laws_pruning.proofs.Numbers.{no_lacks}
use Rattle.kr_laws_pruning.proofs.Numbering.{object, nobody, count_at, parameters, first_slot, parameter_slot, object_slot, object_at_number}
use Rattle.kr_laws_pruning.proofs.Spaces.{block_of, plain_choice}
use Rattle.kr_laws_pruning.proofs.Places.{one_object, extent, extent_within, slots_in_are, same_objects, same_object}
use Rattle.kr_laws_runs.proofs.Respects.{AllOf}
use Rattle.kr_laws_pruning.proofs.Goes.{KnownValue}
use Rattle.kr_laws_pruning.proofs.SlotForks.{all_has, all_from}
use Rattle.kr_laws_pruning.proofs.Walked.{Valid, objects_there, met_valid, walked, adds}

-- ---- lists that have each once

abbrev pub Apart : {X : Type 0} → List X → Type 0
Apart [] = Unit {0}
Apart (x ∷ xs) = (Has x xs → ⊥) × Apart xs

apart_filter : {X : Type 0} (p : X → Bool) (xs : List X) → Apart xs → Apart (filter p xs)
apart_filter p [] h = tt
apart_filter {X} p (x ∷ xs) h = go (p x) (apart_filter p xs h.1)
  where
    go : (b : Bool) → Apart (filter p xs) → Apart (if b then x ∷ filter p xs else filter p xs)
    go true r = ((λ i. h.0 (has_filter_from p x xs i).0), r)
    go false r = r

pub apart_distinct : {X : Type 0} (same : X → X → Bool) → ((x : X) → same x x ≡ true) → (xs : List X) → Apart (distinct same xs)
apart_distinct same one [] = tt
apart_distinct same one (x ∷ xs) =
    ((λ i. let e : not (same x x) ≡ true = (has_filter_from (λ y. not (same x y)) x (distinct same xs) i).1 in absurd (cc (e, one x))), apart_filter (λ y. not (same x y)) (distinct same xs) (apart_distinct same one xs))

pub has_distinct : {X : Type 0} (same : X → X → Bool) → ((x y : X) → same x y ≡ true → x ≡ y) → (x : X) (xs : List X) → Has x xs → Has x (distinct same xs)
has_distinct same eq x [] h = absurd h
has_distinct same eq x (y ∷ ys) (inl e) = inl e
has_distinct {X} same eq x (y ∷ ys) (inr h) = go (cases_Bool (same y x)) (has_distinct same eq x ys h)
  where
    go : (same y x ≡ true) ⊎ (same y x ≡ false) → Has x (distinct same ys) → Has x (distinct same (y ∷ ys))
    go (inl e) r = inl (eq y x e)
    go (inr e) r = inr (has_filter (λ z. not (same y z)) x (distinct same ys) r (rw e refl))

pub apart_differ : (xs : List ℕ) → Apart xs → Differ xs
apart_differ [] h = tt
apart_differ (x ∷ xs) h = (no_lacks xs x h.0, apart_differ xs h.1)

pub has_flat : {X Y : Type 0} (f : X → List Y) (y : Y) (x : X) (xs : List X) → Has x xs → Has y (f x) → Has y (flat_map f xs)
has_flat f y x [] h k = absurd h
has_flat f y x (z ∷ xs) (inl e) k = has_append_left y (f z) (flat_map f xs) (subst (λ (t : _). Has y (f t)) (sym e) k)
has_flat f y x (z ∷ xs) (inr h) k = has_append_right y (f z) (flat_map f xs) (has_flat f y x xs h k)

-- ---- as many different numbers as are below

keeps_all : (n : ℕ) (xs : List ℕ) → (Has n xs → ⊥) → length (filter (λ y. not (n == y)) xs) ≡ length xs
keeps_all n [] h = refl
keeps_all n (x ∷ xs) h = go (cases_Bool (n == x)) (keeps_all n xs (λ i. h (inr i)))
  where
    go : ((n == x) ≡ true) ⊎ ((n == x) ≡ false) → length (filter (λ y. not (n == y)) xs) ≡ length xs → length (filter (λ y. not (n == y)) (x ∷ xs)) ≡ length (x ∷ xs)
    go (inl e) r = absurd (h (inl (sym (eqb-true n x e))))
    go (inr e) r = rw e (ap suc r)

drops_one : (n : ℕ) (xs : List ℕ) → Apart xs → length xs ≤ suc (length (filter (λ y. not (n == y)) xs))
drops_one n [] h = omega arith
drops_one n (x ∷ xs) h = go (cases_Bool (n == x)) (drops_one n xs h.1)
  where
    go : ((n == x) ≡ true) ⊎ ((n == x) ≡ false) → length xs ≤ suc (length (filter (λ y. not (n == y)) xs)) → length (x ∷ xs) ≤ suc (length (filter (λ y. not (n == y)) (x ∷ xs)))
    go (inl e) r =
        let q : n ≡ x = eqb-true n x e in
        let k : length (filter (λ y. not (n == y)) xs) ≡ length xs = keeps_all n xs (λ i. h.0 (subst (λ (z : ℕ). Has z xs) q i)) in
        rw e (omega (arith, k))
    go (inr e) r = rw e (omega (arith, r))

pub at_most : (n : ℕ) (xs : List ℕ) → Apart xs → AllOf (λ x. x < n) xs → length xs ≤ n
at_most zero [] h b = omega arith
at_most zero (x ∷ xs) h b = absurd (omega (arith, b.0))
at_most (suc n) xs h b =
    let ys = filter (λ y. not (n == y)) xs in
    let r = at_most n ys (apart_filter (λ y. not (n == y)) xs h) (all_from (λ y. y < n) ys (λ y i.
    let k = has_filter_from (λ y. not (n == y)) y xs i in
    small n y (all_has (λ y. y < suc n) xs b y k.0) k.1)) in
    omega (arith, r, drops_one n xs h)
  where
    small : (n y : ℕ) → y < suc n → not (n == y) ≡ true → y < n
    small n y l e = go (cases_Bool (n == y))
      where
        go : ((n == y) ≡ true) ⊎ ((n == y) ≡ false) → y < n
        go (inl q) = absurd (cc (e, q))
        go (inr q) = let d : n ≡ y → ⊥ = λ z. absurd (cc (q, eq-eqb n y z)) in omega (arith, l, d)

-- ---- objects that the walk meets

module _ (problem : Problem) (w : IsWellFormed problem) (v : List ℕ) where
  abbrev N : ℕ
  N = length (all_objects problem)

  met_apart : (k : ℕ) → Apart (met_within problem v k)
  met_apart zero = apart_distinct is_same_object same_object (objects_there problem v (root_slots problem))
  met_apart (suc k) = apart_distinct is_same_object same_object (objects_there problem v (walked problem v k))

  numbers_apart : (os : List DomainObject) → AllOf (Valid problem) os → Apart os → Apart (map (heap_number problem) os)
  numbers_apart [] a h = tt
  numbers_apart (o ∷ os) a h = (
    (λ i.
        let r = has_map_from (heap_number problem) (heap_number problem o) os i in
        let b = all_has (Valid problem) os a.1 r.0 r.1 in
        h.0 (subst (λ (x : DomainObject). Has x os) (one_object problem w r.0.domain r.0.number o.domain o.number b.0 b.1 a.0.0 a.0.1 r.2) r.1)),
    numbers_apart os a.1 h.1,
  )

  numbers_below : (os : List DomainObject) → AllOf (Valid problem) os → AllOf (λ x. x < N) (map (heap_number problem) os)
  numbers_below [] a = tt
  numbers_below (o ∷ os) a = ((object_at_number problem o.domain o.number a.0.0 a.0.1).0, numbers_below os a.1)

  met_few : (k : ℕ) → length (met_within problem v k) ≤ N
  met_few k =
      let os = met_within problem v k in
      let h = at_most N (map (heap_number problem) os) (numbers_apart os (met_valid problem v k) (met_apart k)) (numbers_below os (met_valid problem v k)) in
      omega (arith, h, length-map os (heap_number problem))

  settles : (k : ℕ) → (met_within problem v (suc k) ≡ met_within problem v k) ⊎ (k < length (met_within problem v (suc k)))
  settles zero = go (adds problem v 0).new (adds problem v 0).met
    where
      go : (new : List DomainObject) → met_within problem v 1 ≡ met_within problem v 0 ++ new → (met_within problem v 1 ≡ met_within problem v 0) ⊎ (0 < length (met_within problem v 1))
      go [] e = inl (e ∙ append-nil (met_within problem v 0))
      go (x ∷ xs) e = inr (omega (arith, ap (λ (l : List DomainObject). length l) e, length-append (met_within problem v 0) (x ∷ xs)))
  settles (suc k) = go (settles k) (adds problem v (suc k)).new (adds problem v (suc k)).met
    where
      go : (met_within problem v (suc k) ≡ met_within problem v k) ⊎ (k < length (met_within problem v (suc k))) → (new : List DomainObject) → met_within problem v (suc (suc k)) ≡ met_within problem v (suc k) ++ new → (met_within problem v (suc (suc k)) ≡ met_within problem v (suc k)) ⊎ (suc k < length (met_within problem v (suc (suc k))))
      go (inl e) new f = inl (ap (λ (os : List DomainObject). objects_at problem v (root_slots problem ++ flat_map (slots_in problem v) os)) e)
      go (inr l) [] f = inl (f ∙ append-nil (met_within problem v (suc k)))
      go (inr l) (x ∷ xs) f = inr (omega (arith, l, ap (λ (y : List DomainObject). length y) f, length-append (met_within problem v (suc k)) (x ∷ xs)))

  pub settled : met_within problem v (suc N) ≡ met_within problem v N
  settled = go (settles N)
    where
      go : (met_within problem v (suc N) ≡ met_within problem v N) ⊎ (N < length (met_within problem v (suc N))) → met_within problem v (suc N) ≡ met_within problem v N
      go (inl e) = e
      go (inr l) = absurd (omega (arith, l, met_few (suc N)))

  -- the objects that are reachable, by their numbers in the heap
  abbrev pub IsMet : ℕ → Type 0
  IsMet x = Has (get_or (all_objects problem) x nobody) (met_within problem v N)

  met_object : (d k : ℕ) → d < length problem.domains → k < count_at problem d → IsMet (heap_number problem (object d k)) → Has (object d k) (met_within problem v N)
  met_object d k a b h = subst (λ (o : DomainObject). Has o (met_within problem v N)) (object_at_number problem d k a b).1 h

  is_met : (o : DomainObject) → Valid problem o → Has o (met_within problem v N) → IsMet (heap_number problem o)
  is_met o a h = subst (λ (x : DomainObject). Has x (met_within problem v N)) (sym (object_at_number problem o.domain o.number a.0 a.1).1) h

  keeps : (o : DomainObject) (k : ℕ) → Has o (met_within problem v 0) → Has o (met_within problem v k)
  keeps o zero h = h
  keeps o (suc k) h = subst (λ (l : List DomainObject). Has o l) (sym (adds problem v k).met) (has_append_left o (met_within problem v k) (adds problem v k).new (keeps o k h))

  abbrev KnownMet : ℕ → Type 0
  KnownMet o = (o < N) × IsMet o

  plain_known : (x : Value) → IsPlain x → KnownValue N KnownMet x
  plain_known (Int i) p = tt
  plain_known (Truth b) p = tt
  plain_known Null p = tt
  plain_known (Reference o) p = absurd p

  -- a slot whose object would be met holds what is known
  value_known : (s : ℕ) → s < length (slots problem) → ((o : DomainObject) → Has o (objects_of (choice_at problem v s).object) → Has o (met_within problem v N)) → KnownValue N KnownMet (value_at problem v s)
  value_known s h meets = go (choice_at problem v s).object refl
    where
      go : (x : Option DomainObject) → (choice_at problem v s).object ≡ x → KnownValue N KnownMet (value_at problem v s)
      go None e = plain_known (value_at problem v s) (plain_choice problem (slot_at problem s).domain (get_or v s 0) (w.plain s h) e)
      go (Some o) e =
          let b = block_of problem (slot_at problem s).domain (get_or v s 0) o e in
          let i = get_or v s 0 in
          let back : i - o.number + o.number ≡ i = omega (arith, b.room) in
          let is : choice_at problem v s ≡ object_choice problem o = ap (λ (y : ℕ). get_or (choices_in problem (slot_at problem s).domain) y no_choice) (sym back) ∙ b.all o.number b.in_number in
          let m : Has o (met_within problem v N) = meets o (subst (λ (x : Option DomainObject). Has o (objects_of x)) (sym e) (inl refl)) in
          subst (KnownValue N KnownMet) (sym (ap (λ (c : Choice). c.value) is)) (λ lt. (lt, is_met o (b.in_domain, b.in_number) m))

  root_known : (s : ℕ) → Has s (root_slots problem) → s < length (slots problem) → KnownValue N KnownMet (value_at problem v s)
  root_known s r h = value_known s h (λ o i. keeps o N (has_distinct is_same_object same_objects o (objects_there problem v (root_slots problem)) (has_flat (λ s. objects_of (choice_at problem v s).object) o s (root_slots problem) r i)))

  pub this_known : KnownValue N KnownMet (value_at problem v 0)
  this_known = root_known 0 (has_range 0 (parameters problem + 1) 0 (omega arith) (omega arith)) (omega arith)

  pub parameter_known : (i : ℕ) → i < parameters problem → KnownValue N KnownMet (value_at problem v (i + 1))
  parameter_known i h = root_known (i + 1) (has_range 0 (parameters problem + 1) (i + 1) (omega arith) (omega (arith, h))) (parameter_slot problem i h).0

  slot_owned : (d k f : ℕ) → d < length problem.domains → k < count_at problem d → f < extent problem w v d k → Has (first_slot problem d k + f) (slots_in problem v (object d k))
  slot_owned d k f a b c = subst (Has (first_slot problem d k + f)) (sym (slots_in_are problem w v d k a b)) (has_range (first_slot problem d k) (extent problem w v d k) (first_slot problem d k + f) (omega arith) (omega (arith, c)))

  -- the slots of what is met are walked
  pub field_walked : (d k f : ℕ) → d < length problem.domains → k < count_at problem d → f < extent problem w v d k → IsMet (heap_number problem (object d k)) → Has (first_slot problem d k + f) (walked problem v N)
  field_walked d k f a b c m =
      has_append_right (first_slot problem d k + f) (root_slots problem) (flat_map (slots_in problem v) (met_within problem v N)) (has_flat (slots_in problem v) (first_slot problem d k + f) (object d k) (met_within problem v N) (met_object d k a b m) (slot_owned d k f a b c))

  pub field_known : (d k f : ℕ) → d < length problem.domains → k < count_at problem d → f < extent problem w v d k → IsMet (heap_number problem (object d k)) → KnownValue N KnownMet (value_at problem v (first_slot problem d k + f))
  field_known d k f a b c m =
      value_known (first_slot problem d k + f) (object_slot problem d k f a b (omega (arith, c, extent_within problem w v d k a b))).0 (λ o i.
      subst (λ (l : List DomainObject). Has o l) settled (has_distinct is_same_object same_objects o (objects_there problem v (walked problem v N)) (has_flat (λ s. objects_of (choice_at problem v s).object) o (first_slot problem d k + f) (walked problem v N) (field_walked d k f a b c m) i)))

  pub root_walked : (s : ℕ) → s < parameters problem + 1 → Has s (walked problem v N)
  root_walked s h = has_append_left s (root_slots problem) (flat_map (slots_in problem v) (met_within problem v N)) (has_range 0 (parameters problem + 1) s (omega arith) (omega (arith, h)))
