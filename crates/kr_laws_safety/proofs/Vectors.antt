-- The heap, `this` and parameters that a vector spells are of its types.
use Rattle.std.proofs.Common.{◌≡◌, ℕ, zero, suc, ◌+◌, ◌<◌, ◌≤◌, Bool, true, List, [], ◌∷◌, length, get_or, refl, sym, ap, ◌∙◌, arith, subst}
use Rattle.std.specs.Prelude.{map, ◌||◌, ◌&&◌, nat_eq, bytes_eq}
use Rattle.std.specs.List.{range_with_len}
use Rattle.std.proofs.lemmas.List.{length-map}
use Rattle.std.proofs.lemmas.Bool.{eq-eqb}
use Rattle.std.proofs.lemmas.Slice.Eq.{bytes_eq-Decides}
use Rattle.kr_value.specs.Heaps.{HeapObject}
use Rattle.kr_value.specs.declared.value.Value.{Value}
use Rattle.kr_value.specs.declared.value.Value.TheVariants.{Int, Bool as Truth, Null, Ref as Reference}
use Rattle.kr_value.specs.declared.object.Class.{Class}
use Rattle.kr_value.specs.declared.object.Class.TheVariants.{Object, Array, Set, List as ListClass}
use Rattle.kr_classes_table.proofs.Widths.{width_itself}
use Rattle.kr_classes_table.specs.Types.{JavaType, NumberType, BooleanType, NullType, VoidType, ClassType, ArrayType, SetType, ListType, InferredType, UnknownType, AppliedType, is_same}
use Rattle.kr_classes_table.specs.Table.{ancestors, is_among, is_below, is_assignable, fields_of}
use Rattle.kr_mean.specs.Program.{is_array_of}
use Rattle.kr_mean.specs.Problem.{Problem, DomainItem, Plain, Objects, Domain, Spotted, Slot, DomainObject, Choice, all_objects, heap_number, objects_of_domain, item_choices, choices_in, object_choice, domain_at, slots, slot_at}
use Rattle.kr_mean.specs.Space.{space_of, no_choice, IsVector}
use Rattle.kr_mean.specs.Heaps.{heap_of, heap_object, value_at, length_in, values_there}
use Rattle.kr_mean.specs.Runs.{root_class}
use Rattle.kr_mean.specs.WellFormed.{IsWellFormed}
use Rattle.kr_laws_runs.proofs.Respects.{AllOf, all_both}
use Rattle.kr_laws_pruning.proofs.Numbering.{object, nobody, no_spot, count_at, width_at, get_map, first_slot, parameter_slot, object_slot, object_at_number, number_of_object}
use Rattle.kr_laws_pruning.proofs.Places.{class_at, extent_of, extent_within, slots_in_are, values_of_class}
use Rattle.kr_laws_pruning.proofs.Judged.{root_object}
use Rattle.std.proofs.lemmas.List.FromFn.{length-map-range_with_len}
use Rattle.kr_laws_safety.specs.Fits.{IsLength, IsOf, AreOf, AreAll, IsObjectOf, AreObjects, IsHeapOf, type_at}
use Rattle.kr_laws_safety.specs.Domains.{class_type, object_types, IsItemOf, IsDomainOf, AreDomainsOf, domains_of, AreAllDomainsOf, AreElementsOf, AreSpotsOf, HaveDomainsTypes}
use Rattle.kr_laws_safety.specs.Vectors.{IsTyped}

-- ---- types

number_same : (n : ℕ) → nat_eq n n ≡ true
number_same n = eq-eqb n n refl

bytes_same : (n : List ℕ) → bytes_eq n n ≡ true
bytes_same n = (bytes_eq-Decides n n).1 refl

both_hold : (a b : Bool) → a ≡ true → b ≡ true → (a && b) ≡ true
both_hold a b e f = rw (e, f) refl

pub type_same : (t : JavaType) → is_same t t ≡ true
type_same (NumberType w) = width_itself w
type_same BooleanType = refl
type_same NullType = refl
type_same VoidType = refl
type_same (ClassType c) = number_same c
type_same (ArrayType t) = type_same t
type_same (SetType t) = type_same t
type_same (ListType t) = type_same t
type_same InferredType = refl
type_same (UnknownType o n) = both_hold (bytes_eq o o) (bytes_eq n n) (bytes_same o) (bytes_same n)
type_same (AppliedType h t) = both_hold (is_same h h) (is_same t t) (type_same h) (type_same t)

-- ---- lists

all_get : {A : Type 0} (P : A → Type 0) (xs : List A) (i : ℕ) (d : A) → AllOf P xs → i < length xs → P (get_or xs i d)
all_get P [] i d h lt = absurd (omega (arith, lt))
all_get P (x ∷ xs) zero d h lt = h.0
all_get P (x ∷ xs) (suc i) d h lt = all_get P xs i d h.1 (omega (arith, lt))

all_range : {A : Type 0} (P : A → Type 0) (f : ℕ → A) (a n : ℕ) → ((k : ℕ) → a ≤ k → k < a + n → P (f k)) → AllOf P (map f (range_with_len a n))
all_range P f a zero h = tt
all_range P f a (suc n) h = (h a (omega arith) (omega arith), all_range P f (a + 1) n (λ k l m. h k (omega (arith, l)) (omega (arith, m))))

all_map : {A B : Type 0} (P : B → Type 0) (f : A → B) (xs : List A) → AllOf (λ x. P (f x)) xs → AllOf P (map f xs)
all_map P f [] h = tt
all_map P f (x ∷ xs) h = (h.0, all_map P f xs h.1)

objects_by : (problem : Problem) (types : List JavaType) (f : DomainObject → JavaType) (g : DomainObject → HeapObject) (os : List DomainObject) → ((x : ℕ) → x < length os → IsObjectOf problem.program types (f (get_or os x nobody)) (g (get_or os x nobody))) → AreObjects problem.program types (map f os) (map g os)
objects_by problem types f g [] h = tt
objects_by problem types f g (o ∷ os) h = (h 0 (omega arith), objects_by problem types f g os (λ x lt. h (suc x) (omega (arith, lt))))

module _ (problem : Problem) (w : IsWellFormed problem) (h : HaveDomainsTypes problem) (v : List ℕ) (iv : IsVector (space_of problem) v) where
  abbrev Of : JavaType → Value → Type 0
  Of t x = IsOf problem.program.table (object_types problem) t x

  -- the type of an object by its number
  object_typed : (d k : ℕ) → d < length problem.domains → k < count_at problem d → (heap_number problem (object d k) < length (object_types problem)) × (type_at (object_types problem) (heap_number problem (object d k)) ≡ class_type problem.program (domain_at problem d).class)
  object_typed d k a b =
      let r = object_at_number problem d k a b in
      let f = λ (o : DomainObject). class_type problem.program (domain_at problem o.domain).class in (
        omega (arith, r.0, length-map (all_objects problem) f),
        get_map f (all_objects problem) (heap_number problem (object d k)) nobody VoidType r.0 ∙ ap f r.1,
      )

  -- ---- values of domains

  plain_typed : (t : JavaType) (x : Value) → IsOf problem.program.table [] t x → Of t x
  plain_typed t (Int z) i = i
  plain_typed t (Truth b) i = i
  plain_typed t Null i = i
  plain_typed t (Reference o) i = absurd (omega (arith, i.0))

  item_typed : (t : JavaType) (i : DomainItem) → IsItemOf problem t i → AllOf (λ (c : Choice). Of t c.value) (item_choices problem i)
  item_typed t (Plain x) i = (plain_typed t x i, tt)
  item_typed t (Objects d) i =
      all_map (λ (c : Choice). Of t c.value) (object_choice problem) (objects_of_domain d (domain_at problem d))
      (all_range (λ (o : DomainObject). Of t (object_choice problem o).value) (λ k. object d k) 0 (count_at problem d)
      (λ k l m. let r = object_typed d k i.0 (omega (arith, m)) in (r.0, ap (λ (u : JavaType). is_assignable problem.program.table u t) r.1 ∙ i.1)))

  domain_typed : (t : JavaType) (is : Domain) → IsDomainOf problem t is → AllOf (λ (c : Choice). Of t c.value) (choices_in problem is)
  domain_typed t [] i = tt
  domain_typed t (x ∷ xs) i = all_both (λ (c : Choice). Of t c.value) (item_choices problem x) (choices_in problem xs) (item_typed t x i.0) (domain_typed t xs i.1)

  slot_typed : (s : ℕ) (t : JavaType) (domain : Domain) → s < length (slots problem) → (slot_at problem s).domain ≡ domain → IsDomainOf problem t domain → Of t (value_at problem v s)
  unfolding space_of
  slot_typed s t domain lt e i =
      let in_size : get_or v s 0 < length (choices_in problem (slot_at problem s).domain) = iv.within s lt in
      all_get (λ (c : Choice). Of t c.value) (choices_in problem (slot_at problem s).domain) (get_or v s 0) no_choice (domain_typed t (slot_at problem s).domain (subst (λ (x : Domain). IsDomainOf problem t x) (sym e) i)) in_size

  -- ---- objects

  -- the slots from one on have these domains
  abbrev HaveSlots : ℕ → List Domain → Type 0
  HaveSlots a ds = (j : ℕ) → j < length ds → (a + j < length (slots problem)) × ((slot_at problem (a + j)).domain ≡ get_or ds j [])

  later : (a : ℕ) (d : Domain) (ds : List Domain) → HaveSlots a (d ∷ ds) → HaveSlots (a + 1) ds
  later a d ds f j lt =
      let r = f (suc j) (omega (arith, lt)) in
      let e : a + 1 + j ≡ a + suc j = omega arith in
      (omega (arith, r.0), ap (λ (n : ℕ). (slot_at problem n).domain) e ∙ r.1)

  nearest : (a : ℕ) (t : JavaType) (d : Domain) (ds : List Domain) → HaveSlots a (d ∷ ds) → IsDomainOf problem t d → Of t (value_at problem v a)
  nearest a t d ds f i =
      let r = f 0 (omega arith) in
      let e : a ≡ a + 0 = omega arith in
      slot_typed a t d (omega (arith, r.0)) (ap (λ (n : ℕ). (slot_at problem n).domain) e ∙ r.1) i

  in_order : (ts : List JavaType) (ds : List Domain) (a : ℕ) → AreDomainsOf problem ts ds → HaveSlots a ds → AreOf problem.program.table (object_types problem) ts (map (value_at problem v) (range_with_len a (length ds)))
  in_order [] [] a i f = tt
  in_order (t ∷ ts) (d ∷ ds) a i f = (nearest a t d ds f i.0, in_order ts ds (a + 1) i.1 (later a d ds f))
  in_order [] (d ∷ ds) a i f = absurd i
  in_order (t ∷ ts) [] a i f = absurd i

  of_one : (t : JavaType) (ss : List Spotted) (a m : ℕ) → m ≤ length ss → AreAllDomainsOf problem t ss → HaveSlots a (domains_of ss) → AreAll problem.program.table (object_types problem) t (map (value_at problem v) (range_with_len a m))
  of_one t ss a zero l i f = tt
  of_one t [] a (suc m) l i f = absurd (omega (arith, l))
  of_one t (s ∷ ss) a (suc m) l i f = (nearest a t s.domain (domains_of ss) f i.0, of_one t ss (a + 1) m (omega (arith, l)) i.1 (later a s.domain (domains_of ss) f))

  object_slots : (d k : ℕ) → d < length problem.domains → k < count_at problem d → HaveSlots (first_slot problem d k) (domains_of (domain_at problem d).spots)
  object_slots d k a b j lt =
      let inside : j < width_at problem d = omega (arith, lt, length-map (domain_at problem d).spots (λ (s : Spotted). s.domain)) in
      let r = object_slot problem d k j a b inside in
      (r.0, ap (λ (s : Slot). s.domain) r.1 ∙ sym (get_map (λ (s : Spotted). s.domain) (domain_at problem d).spots j no_spot [] inside))

  values_are : (d k : ℕ) (c : Class) → d < length problem.domains → k < count_at problem d → class_at problem w d ≡ c → (heap_object problem v (object d k)).values ≡ values_of_class problem w v d k c
  values_are d k c a b e = ap (λ (ss : List ℕ). values_there (domain_at problem d).class (map (value_at problem v) ss)) (slots_in_are problem w v d k a b) ∙ ap (values_of_class problem w v d k) e

  object_fits : (d k : ℕ) → d < length problem.domains → k < count_at problem d → IsObjectOf problem.program (object_types problem) (class_type problem.program (domain_at problem d).class) (heap_object problem v (object d k))
  object_fits d k a b = go (domain_at problem d).class refl (h.spots d a)
    where
      types : List JavaType
      types = object_types problem

      made : HeapObject
      made = heap_object problem v (object d k)

      go : (c : Class) → (domain_at problem d).class ≡ c → AreSpotsOf problem c (domain_at problem d).spots → IsObjectOf problem.program types (class_type problem.program c) made
      go (Object c) e i =
          let long : length (domains_of (domain_at problem d).spots) ≡ width_at problem d = length-map (domain_at problem d).spots (λ (s : Spotted). s.domain) in
          let fields = map (λ f. f.type) (fields_of problem.program.table c) in
          let fits = in_order fields (domains_of (domain_at problem d).spots) (first_slot problem d k) i (object_slots d k a b) in (
            e,
            subst (λ (xs : List Value). AreOf problem.program.table types fields xs) (sym (values_are d k (Object c) a b e))
                (subst (λ (m : ℕ). AreOf problem.program.table types fields (map (value_at problem v) (range_with_len (first_slot problem d k) m))) long fits),
          )
      go (Array n) e i = array (get_or problem.program.arrays n VoidType) refl (domain_at problem d).spots refl i
        where
          array : (u : JavaType) → get_or problem.program.arrays n VoidType ≡ u → (ss : List Spotted) → (domain_at problem d).spots ≡ ss → AreElementsOf problem u ss → IsObjectOf problem.program types u made
          array (ArrayType t) g (s ∷ ss) q j =
              let m = length_in (value_at problem v (first_slot problem d k)) in
              let below : suc m ≤ suc (length ss) = omega (arith, extent_within problem w v d k a b, ap (λ (c : Class). extent_of c (width_at problem d) (value_at problem v (first_slot problem d k))) e, ap (λ (x : List Spotted). length x) q) in
              let f = subst (λ (x : List Spotted). HaveSlots (first_slot problem d k) (domains_of x)) q (object_slots d k a b) in (
                ap (λ (c : Class). is_array_of problem.program t c) e ∙ (ap (λ (x : JavaType). is_same x (ArrayType t)) g ∙ type_same t),
                subst (λ (xs : List Value). AreAll problem.program.table types t xs) (sym (values_are d k (Array n) a b e)) (of_one t ss (first_slot problem d k + 1) m (omega (arith, below)) j.0 (later (first_slot problem d k) s.domain (domains_of ss) f)),
                subst (λ (xs : List Value). IsLength (length xs)) (sym (values_are d k (Array n) a b e)) (omega (arith, below, j.1, length-map-range_with_len (value_at problem v) (first_slot problem d k + 1) m)),
              )
          array (ArrayType t) g [] q j = absurd j
          array (NumberType w) g ss q j = absurd j
          array BooleanType g ss q j = absurd j
          array NullType g ss q j = absurd j
          array VoidType g ss q j = absurd j
          array (ClassType c) g ss q j = absurd j
          array (SetType t) g ss q j = absurd j
          array (ListType t) g ss q j = absurd j
          array InferredType g ss q j = absurd j
          array (UnknownType o x) g ss q j = absurd j
          array (AppliedType o x) g ss q j = absurd j
      go Set e i = absurd i
      go ListClass e i = absurd i

  heap_typed : IsHeapOf problem.program (object_types problem) (heap_of problem v)
  unfolding heap_of
  heap_typed = objects_by problem (object_types problem) (λ (o : DomainObject). class_type problem.program (domain_at problem o.domain).class) (heap_object problem v) (all_objects problem) one
    where
      one : (x : ℕ) → x < length (all_objects problem) → IsObjectOf problem.program (object_types problem) (class_type problem.program (domain_at problem (get_or (all_objects problem) x nobody).domain).class) (heap_object problem v (get_or (all_objects problem) x nobody))
      one x lt =
          let r = number_of_object problem x lt in
          let e : get_or (all_objects problem) x nobody ≡ object r.domain r.number = ap (λ (n : ℕ). get_or (all_objects problem) n nobody) r.is ∙ (object_at_number problem r.domain r.number r.domain_in r.number_in).1 in
          subst (λ (o : DomainObject). IsObjectOf problem.program (object_types problem) (class_type problem.program (domain_at problem o.domain).class) (heap_object problem v o)) (sym e) (object_fits r.domain r.number r.domain_in r.number_in)

  below_itself : (c : ℕ) → is_below problem.program.table c c ≡ true
  below_itself c = ap (λ (b : Bool). b || is_among c (ancestors problem.program.table c)) (number_same c)

  this_typed : (o : ℕ) × (value_at problem v 0 ≡ Reference o) × Of (ClassType (root_class problem)) (Reference o)
  this_typed =
      let r = root_object problem v iv in
      let t = object_typed problem.root (get_or v 0 0) w.root r.number_in in
      (heap_number problem (object problem.root (get_or v 0 0)), ap (λ (c : Choice). c.value) r.choice, (t.0, ap (λ (u : JavaType). is_assignable problem.program.table u (ClassType (root_class problem))) (t.1 ∙ ap (class_type problem.program) h.root) ∙ below_itself (root_class problem)))

  -- the parameters' slots follow that of `this`
  parameters_typed : (ts : List JavaType) (ds : List Domain) (a : ℕ) → AreDomainsOf problem ts ds → HaveSlots (a + 1) ds → AreOf problem.program.table (object_types problem) ts (map (λ i. value_at problem v (i + 1)) (range_with_len a (length ds)))
  parameters_typed [] [] a i f = tt
  parameters_typed (t ∷ ts) (d ∷ ds) a i f = (nearest (a + 1) t d ds f i.0, parameters_typed ts ds (a + 1) i.1 (later (a + 1) d ds f))
  parameters_typed [] (d ∷ ds) a i f = absurd i
  parameters_typed (t ∷ ts) [] a i f = absurd i

  parameter_slots : HaveSlots (0 + 1) problem.parameters
  parameter_slots j lt =
      let r = parameter_slot problem j lt in
      let e : 0 + 1 + j ≡ j + 1 = omega arith in
      (omega (arith, r.0), ap (λ (n : ℕ). (slot_at problem n).domain) e ∙ ap (λ (s : Slot). s.domain) r.1)

  typed : IsTyped problem v
  typed = record { heap = heap_typed; this = this_typed; parameters = λ m e. parameters_typed (map (λ p. p.type) m.parameters) problem.parameters 0 (h.parameters m e) parameter_slots }

pub is_typed : (problem : Problem) → IsWellFormed problem → HaveDomainsTypes problem → (v : List ℕ) → IsVector (space_of problem) v → IsTyped problem v
is_typed problem w h v iv = typed problem w h v iv
