-- The numbers of objects in the heap, and the positions of their slots.
use Rattle.std.proofs.Common.{◌≡◌, ℕ, zero, suc, ◌+◌, ◌-◌, ◌*◌, ◌<◌, ◌≤◌, ◌⊎◌, inl, inr, List, [], ◌∷◌, ◌++◌, length, get_or, Some, None, refl, sym, ap, ◌∙◌, arith, subst}
use Rattle.std.specs.Prelude.{map, flat_map}
use Rattle.std.specs.List.{range_with_len}
use Rattle.std.proofs.lemmas.List.{get_or_append_left, get_or-append_right, length-append, length-map}
use Rattle.std.proofs.lemmas.List.FromFn.{length-map-range_with_len, get_or-map-range_with_len}
use Rattle.std.proofs.lemmas.List.Concat.{flat_map-append}
use Rattle.std.proofs.lemmas.Bool.{cases_lt}
use Rattle.kr_mean.specs.Problem.{Problem, ClassDomain, Domain, DomainObject, Spotted, Slot, parameter_slots, no_objects, no_slot, domain_at, objects_of_domain, objects_from, objects_before, all_objects, heap_number, slots_of_object, slots, slot_at}
use Rattle.kr_mean.specs.Places.{Parameter, At}
use Rattle.kr_value.specs.declared.object.Spot.TheVariants.{Length}

-- ---- rows of one width

suc_times : (m w : ℕ) → suc m * w ≡ w + m * w
suc_times m w = omega arith

module _ {A B : Type 0} (row : A → List B) (at : ℕ → A) (w : ℕ) (long : (k : ℕ) → length (row (at k)) ≡ w) where
  abbrev rows : ℕ → ℕ → List B
  rows a m = flat_map row (map at (range_with_len a m))

  rows_length : (a m : ℕ) → length (rows a m) ≡ m * w
  rows_length a zero = omega arith
  rows_length a (suc m) = omega (arith, length-append (row (at a)) (rows (a + 1) m), long a, rows_length (a + 1) m, suc_times m w)

  rows_get : (a m j r : ℕ) (d : B) → j < m → r < w → get_or (rows a m) (j * w + r) d ≡ get_or (row (at (a + j))) r d
  rows_get a zero j r d lt small = absurd (omega (arith, lt))
  rows_get a (suc m) zero r d lt small =
      let e : zero * w + r ≡ r = omega arith in
      let z : a + 0 ≡ a = omega arith in
      rw (e, z) (get_or_append_left (row (at a)) (rows (a + 1) m) d r (omega (arith, small, long a)))
  rows_get a (suc m) (suc j) r d lt small =
      let e : suc j * w + r - w ≡ j * w + r = omega (arith, suc_times j w) in
      let z : a + 1 + j ≡ a + suc j = omega arith in
      get_or-append_right (row (at a)) (rows (a + 1) m) w (suc j * w + r) d (long a) (omega (arith, suc_times j w))
      ∙ (ap (λ (n : ℕ). get_or (rows (a + 1) m) n d) e ∙ (rows_get (a + 1) m j r d (omega (arith, lt)) small ∙ ap (λ (n : ℕ). get_or (row (at n)) r d) z))

-- a number below rows of one width is in one of them
pub record InRow (m w x : ℕ) : Type 0 where
  pub row : ℕ
  pub column : ℕ
  pub row_in : row < m
  pub column_in : column < w
  pub is : x ≡ row * w + column

pub in_row : (m w x : ℕ) → x < m * w → InRow m w x
in_row zero w x h = absurd (omega (arith, h))
in_row (suc m) w x h = go (cases_lt x w) (λ le. in_row m w (x - w) (omega (arith, h, le, suc_times m w)))
  where
    go : (x < w) ⊎ (w ≤ x) → (w ≤ x → InRow m w (x - w)) → InRow (suc m) w x
    go (inl lt) f = record { row = 0; column = x; row_in = omega arith; column_in = lt; is = omega arith }
    go (inr le) f = let r = f le in record { row = suc r.row; column = r.column; row_in = omega (arith, r.row_in); column_in = r.column_in; is = omega (arith, r.is, le, suc_times r.row w) }

-- ---- objects

abbrev pub object : ℕ → ℕ → DomainObject
object d k = record { domain = d; number = k }

abbrev pub width_at : Problem → ℕ → ℕ
width_at problem d = length (domain_at problem d).spots

abbrev pub count_at : Problem → ℕ → ℕ
count_at problem d = (domain_at problem d).count

abbrev pub no_spot : Spotted
no_spot = record { spot = Length; domain = [] }

abbrev pub spotted_at : Problem → ℕ → ℕ → Spotted
spotted_at problem d j = get_or (domain_at problem d).spots j no_spot

-- the first object of no list
abbrev pub nobody : DomainObject
nobody = object 0 0

pub domain_get : (d k : ℕ) (domain : ClassDomain) → k < domain.count → get_or (objects_of_domain d domain) k nobody ≡ object d k
domain_get d k domain h = get_or-map-range_with_len (λ k. object d k) 0 domain.count k k nobody h (omega arith)

pub domain_length : (d : ℕ) (domain : ClassDomain) → length (objects_of_domain d domain) ≡ domain.count
domain_length d domain = length-map-range_with_len (λ k. object d k) 0 domain.count

zero_first : (k : ℕ) → 0 + k ≡ k
zero_first k = omega arith

zero_last : (k : ℕ) → k ≡ k + 0
zero_last k = omega arith

record AtNumber (d0 : ℕ) (domains : List ClassDomain) (i k : ℕ) : Type 0 where
  inside : objects_before i domains + k < length (objects_from d0 domains)
  is : get_or (objects_from d0 domains) (objects_before i domains + k) nobody ≡ object (d0 + i) k

at_number : (d0 : ℕ) (domains : List ClassDomain) (i k : ℕ) → i < length domains → k < (get_or domains i no_objects).count → AtNumber d0 domains i k
at_number d0 [] i k h b = absurd (omega (arith, h))
at_number d0 (domain ∷ domains) zero k h b = record {
  inside = omega (arith, b, domain_length d0 domain, length-append (objects_of_domain d0 domain) (objects_from (d0 + 1) domains));
  is = ap (λ (n : ℕ). get_or (objects_from d0 (domain ∷ domains)) n nobody) (zero_first k) ∙ (get_or_append_left (objects_of_domain d0 domain) (objects_from (d0 + 1) domains) nobody k (omega (arith, b, domain_length d0 domain)) ∙ (domain_get d0 k domain b ∙ ap (λ (n : ℕ). object n k) (zero_last d0)));
}
at_number d0 (domain ∷ domains) (suc i) k h b =
    let r = at_number (d0 + 1) domains i k (omega (arith, h)) b in
    let e : domain.count + objects_before i domains + k - domain.count ≡ objects_before i domains + k = omega arith in
    let z : d0 + 1 + i ≡ d0 + suc i = omega arith in
    record {
      inside = omega (arith, r.inside, domain_length d0 domain, length-append (objects_of_domain d0 domain) (objects_from (d0 + 1) domains));
      is = get_or-append_right (objects_of_domain d0 domain) (objects_from (d0 + 1) domains) domain.count (domain.count + objects_before i domains + k) nobody (domain_length d0 domain) (omega arith)
          ∙ (ap (λ (n : ℕ). get_or (objects_from (d0 + 1) domains) n nobody) e ∙ (r.is ∙ ap (λ (n : ℕ). object n k) z));
    }

pub record InDomain (domains : List ClassDomain) (x : ℕ) : Type 0 where
  pub domain : ℕ
  pub number : ℕ
  pub domain_in : domain < length domains
  pub number_in : number < (get_or domains domain no_objects).count
  pub is : x ≡ objects_before domain domains + number

in_domain : (d0 : ℕ) (domains : List ClassDomain) (x : ℕ) → x < length (objects_from d0 domains) → InDomain domains x
in_domain d0 [] x h = absurd (omega (arith, h))
in_domain d0 (domain ∷ domains) x h = go (cases_lt x domain.count) (λ le. in_domain (d0 + 1) domains (x - domain.count) (omega (arith, h, le, domain_length d0 domain, length-append (objects_of_domain d0 domain) (objects_from (d0 + 1) domains))))
  where
    go : (x < domain.count) ⊎ (domain.count ≤ x) → (domain.count ≤ x → InDomain domains (x - domain.count)) → InDomain (domain ∷ domains) x
    go (inl lt) f = record { domain = 0; number = x; domain_in = omega arith; number_in = lt; is = omega arith }
    go (inr le) f = let r = f le in record { domain = suc r.domain; number = r.number; domain_in = omega (arith, r.domain_in); number_in = r.number_in; is = omega (arith, r.is, le) }

-- an object has its number, and each number below is that of an object
pub object_at_number : (problem : Problem) (d k : ℕ) → d < length problem.domains → k < count_at problem d → (heap_number problem (object d k) < length (all_objects problem)) × (get_or (all_objects problem) (heap_number problem (object d k)) nobody ≡ object d k)
object_at_number problem d k h b = let r = at_number 0 problem.domains d k h b in (r.inside, r.is ∙ ap (λ (n : ℕ). object n k) (omega arith))

pub number_of_object : (problem : Problem) (x : ℕ) → x < length (all_objects problem) → InDomain problem.domains x
number_of_object problem x h = in_domain 0 problem.domains x h

-- ---- slots

abbrev pub slots_before : ℕ → List ClassDomain → ℕ
slots_before zero domains = 0
slots_before (suc d) [] = 0
slots_before (suc d) (domain ∷ domains) = domain.count * length domain.spots + slots_before d domains

abbrev pub slot_of : Problem → ℕ → ℕ → Spotted → Slot
slot_of problem d k s = record { place = At (heap_number problem (object d k)) s.spot; owner = Some (object d k); domain = s.domain }

pub get_map : {A B : Type 0} (f : A → B) (xs : List A) (i : ℕ) (d : A) (e : B) → i < length xs → get_or (map f xs) i e ≡ f (get_or xs i d)
get_map f [] i d e h = absurd (omega (arith, h))
get_map f (x ∷ xs) zero d e h = refl
get_map f (x ∷ xs) (suc i) d e h = get_map f xs i d e (omega (arith, h))

module _ (problem : Problem) where
  -- the slots of a list of class domains that are the problem's from a number on
  abbrev object_slots : ℕ → List ClassDomain → List Slot
  object_slots d0 domains = flat_map (slots_of_object problem) (objects_from d0 domains)

  abbrev AreFrom : ℕ → List ClassDomain → Type 0
  AreFrom d0 domains = (i : ℕ) → get_or problem.domains (d0 + i) no_objects ≡ get_or domains i no_objects

  rest_from : (d0 : ℕ) (domain : ClassDomain) (domains : List ClassDomain) → AreFrom d0 (domain ∷ domains) → AreFrom (d0 + 1) domains
  rest_from d0 domain domains a i = ap (λ (n : ℕ). get_or problem.domains n no_objects) (omega arith) ∙ a (suc i)

  first_from : (d0 : ℕ) (domain : ClassDomain) (domains : List ClassDomain) → AreFrom d0 (domain ∷ domains) → domain_at problem d0 ≡ domain
  first_from d0 domain domains a = ap (λ (n : ℕ). get_or problem.domains n no_objects) (omega arith) ∙ a 0

  object_long : (d0 : ℕ) (domain : ClassDomain) → domain_at problem d0 ≡ domain → (k : ℕ) → length (slots_of_object problem (object d0 k)) ≡ length domain.spots
  object_long d0 domain e k = length-map (domain_at problem d0).spots (slot_of problem d0 k) ∙ ap (λ (x : ClassDomain). length x.spots) e

  block_length : (d0 : ℕ) (domain : ClassDomain) → domain_at problem d0 ≡ domain → length (flat_map (slots_of_object problem) (objects_of_domain d0 domain)) ≡ domain.count * length domain.spots
  block_length d0 domain e = rows_length (slots_of_object problem) (λ k. object d0 k) (length domain.spots) (object_long d0 domain e) 0 domain.count

  object_slots_are : (d0 : ℕ) (domain : ClassDomain) (domains : List ClassDomain) → object_slots d0 (domain ∷ domains) ≡ flat_map (slots_of_object problem) (objects_of_domain d0 domain) ++ object_slots (d0 + 1) domains
  object_slots_are d0 domain domains = flat_map-append (slots_of_object problem) (objects_of_domain d0 domain) (objects_from (d0 + 1) domains)

  object_slots_long : (d0 : ℕ) (domain : ClassDomain) (domains : List ClassDomain) → domain_at problem d0 ≡ domain → length (object_slots d0 (domain ∷ domains)) ≡ domain.count * length domain.spots + length (object_slots (d0 + 1) domains)
  object_slots_long d0 domain domains e = ap (λ (x : List Slot). length x) (object_slots_are d0 domain domains) ∙ omega (arith, block_length d0 domain e, length-append (flat_map (slots_of_object problem) (objects_of_domain d0 domain)) (object_slots (d0 + 1) domains))

  record SlotIs (d0 : ℕ) (domains : List ClassDomain) (i k j : ℕ) : Type 0 where
    inside : slots_before i domains + (k * length (get_or domains i no_objects).spots + j) < length (object_slots d0 domains)
    is : get_or (object_slots d0 domains) (slots_before i domains + (k * length (get_or domains i no_objects).spots + j)) no_slot ≡ slot_of problem (d0 + i) k (get_or (get_or domains i no_objects).spots j no_spot)

  below_rows : (k m w j : ℕ) → k < m → j < w → k * w + j < m * w
  below_rows k zero w j h b = absurd (omega (arith, h))
  below_rows zero (suc m) w j h b = omega (arith, b, suc_times m w)
  below_rows (suc k) (suc m) w j h b = omega (arith, below_rows k m w j (omega (arith, h)) b, suc_times m w, suc_times k w)

  slot_there : (d0 : ℕ) (domains : List ClassDomain) → AreFrom d0 domains → (i k j : ℕ) → i < length domains → k < (get_or domains i no_objects).count → j < length (get_or domains i no_objects).spots → SlotIs d0 domains i k j
  slot_there d0 [] a i k j h b c = absurd (omega (arith, h))
  slot_there d0 (domain ∷ domains) a zero k j h b c =
      let e : domain_at problem d0 ≡ domain = first_from d0 domain domains a in
      let w = length domain.spots in
      let block = flat_map (slots_of_object problem) (objects_of_domain d0 domain) in
      let small : k * w + j < domain.count * w = below_rows k domain.count w j b c in
      let z : d0 + 0 ≡ d0 = omega arith in
      record {
        inside = omega (arith, small, object_slots_long d0 domain domains e);
        is = ap (λ (n : ℕ). get_or (object_slots d0 (domain ∷ domains)) n no_slot) (zero_first (k * w + j))
            ∙ (ap (λ (x : List Slot). get_or x (k * w + j) no_slot) (object_slots_are d0 domain domains)
            ∙ (get_or_append_left block (object_slots (d0 + 1) domains) no_slot (k * w + j) (omega (arith, small, block_length d0 domain e))
            ∙ (rows_get (slots_of_object problem) (λ n. object d0 n) w (object_long d0 domain e) 0 domain.count k j no_slot b c
            ∙ (get_map (slot_of problem d0 (0 + k)) (domain_at problem d0).spots j no_spot no_slot (subst (λ (x : ClassDomain). j < length x.spots) (sym e) c)
            ∙ (ap (λ (x : ClassDomain). slot_of problem d0 (0 + k) (get_or x.spots j no_spot)) e
            ∙ (ap (λ (n : ℕ). slot_of problem d0 n (get_or domain.spots j no_spot)) (zero_first k) ∙ ap (λ (n : ℕ). slot_of problem n k (get_or domain.spots j no_spot)) (sym z)))))));
      }
  slot_there d0 (domain ∷ domains) a (suc i) k j h b c =
      let e : domain_at problem d0 ≡ domain = first_from d0 domain domains a in
      let r = slot_there (d0 + 1) domains (rest_from d0 domain domains a) i k j (omega (arith, h)) b c in
      let w = length (get_or domains i no_objects).spots in
      let n = domain.count * length domain.spots in
      let block = flat_map (slots_of_object problem) (objects_of_domain d0 domain) in
      let x = n + slots_before i domains + (k * w + j) in
      let q : x - n ≡ slots_before i domains + (k * w + j) = omega arith in
      let z : d0 + 1 + i ≡ d0 + suc i = omega arith in
      record {
        inside = omega (arith, r.inside, object_slots_long d0 domain domains e);
        is = ap (λ (l : List Slot). get_or l x no_slot) (object_slots_are d0 domain domains)
            ∙ (get_or-append_right block (object_slots (d0 + 1) domains) n x no_slot (block_length d0 domain e) (omega arith)
            ∙ (ap (λ (m : ℕ). get_or (object_slots (d0 + 1) domains) m no_slot) q
            ∙ (r.is ∙ ap (λ (m : ℕ). slot_of problem m k (get_or (get_or domains i no_objects).spots j no_spot)) z)));
      }

  record InObject (domains : List ClassDomain) (x : ℕ) : Type 0 where
    domain : ℕ
    number : ℕ
    column : ℕ
    domain_in : domain < length domains
    number_in : number < (get_or domains domain no_objects).count
    column_in : column < length (get_or domains domain no_objects).spots
    is : x ≡ slots_before domain domains + (number * length (get_or domains domain no_objects).spots + column)

  in_object : (d0 : ℕ) (domains : List ClassDomain) → AreFrom d0 domains → (x : ℕ) → x < length (object_slots d0 domains) → InObject domains x
  in_object d0 [] a x h = absurd (omega (arith, h))
  in_object d0 (domain ∷ domains) a x h = go (cases_lt x n) (λ le. in_object (d0 + 1) domains (rest_from d0 domain domains a) (x - n) (omega (arith, h, le, object_slots_long d0 domain domains (first_from d0 domain domains a))))
    where
      n : ℕ
      n = domain.count * length domain.spots

      go : (x < n) ⊎ (n ≤ x) → (n ≤ x → InObject domains (x - n)) → InObject (domain ∷ domains) x
      go (inl lt) f = let r = in_row domain.count (length domain.spots) x lt in record { domain = 0; number = r.row; column = r.column; domain_in = omega arith; number_in = r.row_in; column_in = r.column_in; is = omega (arith, r.is) }
      go (inr le) f = let r = f le in record { domain = suc r.domain; number = r.number; column = r.column; domain_in = omega (arith, r.domain_in); number_in = r.number_in; column_in = r.column_in; is = omega (arith, r.is, le) }

  -- ---- all slots

  abbrev pub parameters : ℕ
  parameters = length problem.parameters

  -- the first slot of an object
  abbrev pub first_slot : ℕ → ℕ → ℕ
  first_slot d k = 1 + parameters + slots_before d problem.domains + k * width_at problem d

  parameters_long : (i : ℕ) (ds : List Domain) → length (parameter_slots i ds) ≡ length ds
  parameters_long i [] = refl
  parameters_long i (d ∷ ds) = ap suc (parameters_long (i + 1) ds)

  parameter_get : (i : ℕ) (ds : List Domain) (j : ℕ) → j < length ds → get_or (parameter_slots i ds) j no_slot ≡ record { place = Parameter (i + j); owner = None; domain = get_or ds j [] }
  parameter_get i [] j h = absurd (omega (arith, h))
  parameter_get i (d ∷ ds) zero h = ap (λ (n : ℕ). record { place = Parameter n; owner = None; domain = d }) (omega arith)
  parameter_get i (d ∷ ds) (suc j) h = parameter_get (i + 1) ds j (omega (arith, h)) ∙ ap (λ (n : ℕ). record { place = Parameter n; owner = None; domain = get_or ds j [] }) (omega arith)

  are_all : AreFrom 0 problem.domains
  are_all i = ap (λ (n : ℕ). get_or problem.domains n no_objects) (omega arith)

  abbrev later : List Slot
  later = parameter_slots 0 problem.parameters ++ object_slots 0 problem.domains

  later_long : length later ≡ parameters + length (object_slots 0 problem.domains)
  later_long = omega (arith, length-append (parameter_slots 0 problem.parameters) (object_slots 0 problem.domains), parameters_long 0 problem.parameters)

  pub slots_long : length (slots problem) ≡ 1 + parameters + length (object_slots 0 problem.domains)
  slots_long = omega (arith, later_long)

  pub parameter_slot : (i : ℕ) → i < parameters → (i + 1 < length (slots problem)) × (slot_at problem (i + 1) ≡ record { place = Parameter i; owner = None; domain = get_or problem.parameters i [] })
  parameter_slot i h =
      let ds = problem.parameters in
      let e : i + 1 ≡ suc i = omega arith in (
        omega (arith, slots_long, h),
        ap (λ (n : ℕ). get_or (slots problem) n no_slot) e ∙ (get_or_append_left (parameter_slots 0 ds) (object_slots 0 problem.domains) no_slot i (omega (arith, h, parameters_long 0 ds)) ∙ (parameter_get 0 ds i h ∙ ap (λ (n : ℕ). record { place = Parameter n; owner = None; domain = get_or ds i [] }) (omega arith))),
      )

  pub object_slot : (d k j : ℕ) → d < length problem.domains → k < count_at problem d → j < width_at problem d → (first_slot d k + j < length (slots problem)) × (slot_at problem (first_slot d k + j) ≡ slot_of problem d k (spotted_at problem d j))
  object_slot d k j h b c =
      let r = slot_there 0 problem.domains are_all d k j h b c in
      let w = width_at problem d in
      let x = slots_before d problem.domains + (k * w + j) in
      let e : first_slot d k + j ≡ suc (parameters + x) = omega arith in
      let q : parameters + x - parameters ≡ x = omega arith in (
        omega (arith, slots_long, r.inside),
        ap (λ (n : ℕ). get_or (slots problem) n no_slot) e ∙ (get_or-append_right (parameter_slots 0 problem.parameters) (object_slots 0 problem.domains) parameters (parameters + x) no_slot (parameters_long 0 problem.parameters) (omega arith)
            ∙ (ap (λ (n : ℕ). get_or (object_slots 0 problem.domains) n no_slot) q ∙ (r.is ∙ ap (λ (n : ℕ). slot_of problem n k (spotted_at problem d j)) (omega arith)))),
      )

  -- a slot: `this`, a parameter, or a spot of an object
  pub data SlotCase (s : ℕ) : Type 0 where
    is_this : s ≡ 0 → SlotCase s
    is_parameter : (i : ℕ) → i < parameters → s ≡ i + 1 → SlotCase s
    is_spot : (d k j : ℕ) → d < length problem.domains → k < count_at problem d → j < width_at problem d → s ≡ first_slot d k + j → SlotCase s

  pub slot_case : (s : ℕ) → s < length (slots problem) → SlotCase s
  slot_case zero h = is_this refl
  slot_case (suc s) h = go (cases_lt s parameters)
    where
      go : (s < parameters) ⊎ (parameters ≤ s) → SlotCase (suc s)
      go (inl lt) = is_parameter s lt (omega arith)
      go (inr le) = let r = in_object 0 problem.domains are_all (s - parameters) (omega (arith, h, le, slots_long)) in is_spot r.domain r.number r.column r.domain_in r.number_in r.column_in (omega (arith, r.is, le))
