-- The values of a structure: numbers are within the width of their spots, and an array's length is a length.
use Rattle.std.proofs.Common.{◌≡◌, ℕ, zero, suc, ◌+◌, ◌-◌, ◌<◌, ◌≤◌, true, List, [], ◌∷◌, length, get_or, refl, sym, ap, ◌∙◌, arith, subst}
use Rattle.std.specs.Prelude.{map, ℤ, pos, negsuc}
use Rattle.std.proofs.lemmas.Bool.{lt-ltb}
use Rattle.std.proofs.lemmas.List.{length-map}
use Rattle.kr_value.specs.declared.value.Value.{Value}
use Rattle.kr_value.specs.declared.value.Value.TheVariants.{Int, Bool as Truth, Null, Ref as Reference}
use Rattle.kr_value.specs.declared.object.Class.{Class}
use Rattle.kr_value.specs.declared.object.Class.TheVariants.{Object, Array, Set, List as ListClass}
use Rattle.kr_value.specs.Heaps.{HeapObject, object_in}
use Rattle.kr_classes_table.specs.Numbers.{Width, Bits32, Bits64, is_within, half}
use Rattle.kr_classes_table.specs.Table.{Field, Table, fields_of}
use Rattle.kr_classes_table.specs.Types.{JavaType, NumberType, BooleanType, NullType, VoidType, ClassType, ArrayType, SetType, ListType, InferredType, UnknownType, AppliedType}
use Rattle.kr_mean.specs.Heaps.{heap_of, length_in, value_at}
use Rattle.kr_mean.specs.Problem.{Domain, Objects, Plain, Problem, Slot, DomainObject, Spotted, all_objects, choices_in, domain_at, heap_number, slot_at, slots}
use Rattle.kr_mean.specs.Runs.{root_class}
use Rattle.kr_mean.specs.Space.{IsVector, no_choice, space_of}
use Rattle.kr_mean.specs.WellFormed.{AreLengths, AreSpots, IsWellFormed}
use Rattle.kr_laws_pruning.proofs.Numbering.{count_at, first_slot, get_map, no_spot, nobody, object, object_at_number, object_slot, width_at}
use Rattle.kr_laws_pruning.proofs.Places.{class_at, extent, extent_of, heap_element, heap_field, heap_length, heap_width, kind}
use Rattle.kr_laws_safety.proofs.Heaps.{object_found}
use Rattle.kr_laws_safety.proofs.Vectors.{is_typed}
use Rattle.kr_laws_safety.specs.Domains.{AreElementsOf, AreSpotsOf, HaveDomainsTypes, class_type, object_types}
use Rattle.kr_laws_safety.specs.Fits.{AreAll, AreOf, IsObjectOf, IsOf, IsWithin, type_at}
use Rattle.kr_emit_meaning.specs.Buildable.{array_elements, element_of}
use Rattle.kr_emit_meaning.specs.Builders.{is_long, is_long_spot}
use Rattle.kr_emit_laws.proofs.Lines.{width_by}
use Rattle.kr_emit_laws.proofs.Objects.{kept_from}

-- ---- lists of values

of_at : (table : Table) (types ts : List JavaType) (vs : List Value) (j : ℕ) → AreOf table types ts vs → j < length vs → IsOf table types (get_or ts j VoidType) (get_or vs j Null)
of_at table types [] [] j h l = absurd (omega (arith, l))
of_at table types [] (v ∷ vs) j h l = absurd h
of_at table types (t ∷ ts) [] j h l = absurd h
of_at table types (t ∷ ts) (v ∷ vs) zero h l = h.0
of_at table types (t ∷ ts) (v ∷ vs) (suc j) h l = of_at table types ts vs j h.1 (omega (arith, l))

all_at : (table : Table) (types : List JavaType) (t : JavaType) (vs : List Value) (j : ℕ) → AreAll table types t vs → j < length vs → IsOf table types t (get_or vs j Null)
all_at table types t [] j h l = absurd (omega (arith, l))
all_at table types t (v ∷ vs) zero h l = h.0
all_at table types t (v ∷ vs) (suc j) h l = all_at table types t vs j h.1 (omega (arith, l))

-- a number of a type is within its width
within_type : (table : Table) (types : List JavaType) (t : JavaType) (x : Value) (z : ℤ) → IsOf table types t x → x ≡ Int z → is_within (width_by (is_long t)) z ≡ true
within_type table types t x z h e = go (subst (IsOf table types t) e h)
  where
    width_is : (w : Width) → width_by (is_long (NumberType w)) ≡ w
    width_is Bits32 = refl
    width_is Bits64 = refl

    fits : (w : Width) (z : ℤ) → IsWithin w z → is_within w z ≡ true
    fits w (pos n) l = lt-ltb n (half w) l
    fits w (negsuc n) l = lt-ltb n (half w) l

    go : (w : Width) × (t ≡ NumberType w) × IsWithin w z → is_within (width_by (is_long t)) z ≡ true
    go r = ap (λ (u : JavaType). is_within (width_by (is_long u)) z) r.1 ∙ (ap (λ (w : Width). is_within w z) (width_is r.0) ∙ fits r.0 z r.2)

-- a length of a domain of lengths
lengths_at : (problem : Problem) (m : ℕ) (domain : Domain) (i : ℕ) → AreLengths m domain → i < length (choices_in problem domain) → (n : ℕ) × ((get_or (choices_in problem domain) i no_choice).value ≡ Int (pos n))
lengths_at problem m [] i h l = absurd (omega (arith, l))
lengths_at problem m (Plain (Int (pos n)) ∷ items) zero h l = (n, refl)
lengths_at problem m (Plain (Int (pos n)) ∷ items) (suc i) h l = lengths_at problem m items i h.1 (omega (arith, l))
lengths_at problem m (Plain (Int (negsuc n)) ∷ items) i h l = absurd h
lengths_at problem m (Plain (Truth b) ∷ items) i h l = absurd h
lengths_at problem m (Plain Null ∷ items) i h l = absurd h
lengths_at problem m (Plain (Reference o) ∷ items) i h l = absurd h
lengths_at problem m (Objects d ∷ items) i h l = absurd h

module _ (problem : Problem) (w : IsWellFormed problem) (h : HaveDomainsTypes problem) (v : List ℕ) (iv : IsVector (space_of problem) v) where
  abbrev types : List JavaType
  types = object_types problem

  abbrev table : Table
  table = problem.program.table

  number_long : (d k : ℕ) → d < length problem.domains → k < count_at problem d → heap_number problem (object d k) < length (object_types problem)
  number_long d k a b =
      omega (arith, (object_at_number problem d k a b).0, length-map (all_objects problem) (λ (o : DomainObject). class_type problem.program (domain_at problem o.domain).class))

  pub object_type : (d k : ℕ) → d < length problem.domains → k < count_at problem d → type_at (object_types problem) (heap_number problem (object d k)) ≡ class_type problem.program (class_at problem w d)
  object_type d k a b =
      let r = object_at_number problem d k a b in
      get_map (λ (o : DomainObject). class_type problem.program (domain_at problem o.domain).class) (all_objects problem) (heap_number problem (object d k)) nobody VoidType r.0 ∙ ap (λ (o : DomainObject). class_type problem.program (domain_at problem o.domain).class) r.1

  object_typed : (d k : ℕ) → d < length problem.domains → k < count_at problem d → IsObjectOf problem.program (object_types problem) (class_type problem.program (class_at problem w d)) (object_in (heap_of problem v) (heap_number problem (object d k)))
  object_typed d k a b =
      subst (λ (t : JavaType). IsObjectOf problem.program types t (object_in (heap_of problem v) (heap_number problem (object d k)))) (object_type d k a b)
      (object_found problem.program types types (heap_of problem v) (heap_number problem (object d k)) (is_typed problem w h v iv).heap (number_long d k a b))

  -- a field has a value of its type, and so has an element
  pub field_typed : (d k c j : ℕ) → d < length problem.domains → k < count_at problem d → class_at problem w d ≡ Object c → j < width_at problem d
      → IsOf problem.program.table (object_types problem) (get_or (map (λ (f : Field). f.type) (fields_of problem.program.table c)) j VoidType) (value_at problem v (first_slot problem d k + j))
  field_typed d k c j a b e l =
      let o : HeapObject = object_in (heap_of problem v) (heap_number problem (object d k)) in
      let typed : IsObjectOf problem.program types (ClassType c) o = subst (λ (x : Class). IsObjectOf problem.program types (class_type problem.program x) o) e (object_typed d k a b) in
      subst (λ (x : Value). IsOf table types (get_or (map (λ (f : Field). f.type) (fields_of table c)) j VoidType) x) (heap_field problem w v d k c j a b e l)
      (of_at table types (map (λ (f : Field). f.type) (fields_of table c)) o.values j typed.1 (omega (arith, l, heap_width problem w v d k c a b e)))

  pub element_typed : (d k t j : ℕ) → d < length problem.domains → k < count_at problem d → class_at problem w d ≡ Array t → j < length_in (value_at problem v (first_slot problem d k))
      → IsOf problem.program.table (object_types problem) (array_elements problem.program t) (value_at problem v (first_slot problem d k + suc j))
  element_typed d k t j a b e l = go (get_or problem.program.arrays t VoidType) refl (subst (λ (x : Class). AreSpotsOf problem x (domain_at problem d).spots) e (h.spots d a))
    where
      o : HeapObject
      o = object_in (heap_of problem v) (heap_number problem (object d k))

      by : (u : JavaType) → get_or problem.program.arrays t VoidType ≡ ArrayType u → IsOf table types u (value_at problem v (first_slot problem d k + suc j))
      by u q =
          let typed : IsObjectOf problem.program types (ArrayType u) o = subst (λ (x : JavaType). IsObjectOf problem.program types x o) q (subst (λ (x : Class). IsObjectOf problem.program types (class_type problem.program x) o) e (object_typed d k a b)) in
          subst (λ (x : Value). IsOf table types u x) (heap_element problem w v d k t j a b e l) (all_at table types u o.values j typed.1 (omega (arith, l, heap_length problem w v d k t a b e)))

      go : (u : JavaType) → get_or problem.program.arrays t VoidType ≡ u → AreElementsOf problem u (domain_at problem d).spots → IsOf table types (array_elements problem.program t) (value_at problem v (first_slot problem d k + suc j))
      go (ArrayType u) q i = subst (λ (x : JavaType). IsOf table types (element_of x) (value_at problem v (first_slot problem d k + suc j))) (sym q) (by u q)
      go (NumberType x) q i = absurd i
      go BooleanType q i = absurd i
      go NullType q i = absurd i
      go VoidType q i = absurd i
      go (ClassType c) q i = absurd i
      go (SetType u) q i = absurd i
      go (ListType u) q i = absurd i
      go InferredType q i = absurd i
      go (UnknownType x y) q i = absurd i
      go (AppliedType x y) q i = absurd i

  pub numbers_within : (d k j : ℕ) → d < length problem.domains → k < count_at problem d → kept_from (class_at problem w d) ≤ j → j < extent problem w v d k → (z : ℤ) → value_at problem v (first_slot problem d k + j) ≡ Int z
      → is_within (width_by (is_long_spot problem.program (class_at problem w d) (kind (class_at problem w d) j))) z ≡ true
  numbers_within d k j a b from l z is = go (class_at problem w d) refl from l
    where
      go : (c : Class) → class_at problem w d ≡ c → kept_from c ≤ j → j < extent_of c (width_at problem d) (value_at problem v (first_slot problem d k)) → is_within (width_by (is_long_spot problem.program c (kind c j))) z ≡ true
      go (Object c) e f l = within_type table types (get_or (map (λ (f : Field). f.type) (fields_of table c)) j VoidType) (value_at problem v (first_slot problem d k + j)) z (field_typed d k c j a b e l) is
      go (Array t) e f l =
          let i : ℕ = j - 1 in
          let on : j ≡ suc i = omega (arith, f) in
          ap (λ (x : ℕ). is_within (width_by (is_long_spot problem.program (Array t) (kind (Array t) x))) z) on
          ∙ within_type table types (array_elements problem.program t) (value_at problem v (first_slot problem d k + suc i)) z (element_typed d k t i a b e (omega (arith, l, on))) (ap (λ (x : ℕ). value_at problem v (first_slot problem d k + x)) (sym on) ∙ is)
      go Set e f l = absurd (subst (λ (x : Class). AreSpotsOf problem x (domain_at problem d).spots) e (h.spots d a))
      go ListClass e f l = absurd (subst (λ (x : Class). AreSpotsOf problem x (domain_at problem d).spots) e (h.spots d a))

  sized : (s : ℕ) → s < length (slots problem) → get_or v s 0 < length (choices_in problem (slot_at problem s).domain)
  unfolding space_of
  sized s l = iv.within s l

  pub length_given : (d k t : ℕ) → d < length problem.domains → k < count_at problem d → class_at problem w d ≡ Array t → (n : ℕ) × (value_at problem v (first_slot problem d k) ≡ Int (pos n))
  length_given d k t a b e = go (domain_at problem d).spots refl (subst (λ (c : Class). AreSpots c (domain_at problem d).spots) e (w.spots d a))
    where
      go : (ss : List Spotted) → (domain_at problem d).spots ≡ ss → AreSpots (Array t) ss → (n : ℕ) × (value_at problem v (first_slot problem d k) ≡ Int (pos n))
      go [] q i = absurd i
      go (s ∷ ss) q i =
          let some : 0 < width_at problem d = omega (arith, ap (λ (x : List Spotted). length x) q) in
          let r = object_slot problem d k 0 a b some in
          let on : first_slot problem d k ≡ first_slot problem d k + 0 = omega arith in
          let there : first_slot problem d k < length (slots problem) = omega (arith, r.0) in
          let domain : (slot_at problem (first_slot problem d k)).domain ≡ s.domain =
          ap (λ (x : ℕ). (slot_at problem x).domain) on ∙ (ap (λ (x : Slot). x.domain) r.1 ∙ ap (λ (x : List Spotted). (get_or x 0 no_spot).domain) q) in
          let inside : get_or v (first_slot problem d k) 0 < length (choices_in problem (slot_at problem (first_slot problem d k)).domain) = sized (first_slot problem d k) there in
          let n = lengths_at problem (length ss) s.domain (get_or v (first_slot problem d k) 0) i.2 (subst (λ (x : Domain). get_or v (first_slot problem d k) 0 < length (choices_in problem x)) domain inside) in
          (n.0, ap (λ (x : Domain). (get_or (choices_in problem x) (get_or v (first_slot problem d k) 0) no_choice).value) domain ∙ n.1)

  pub root_given : (o : ℕ) × (value_at problem v 0 ≡ Reference o)
  root_given = let r = (is_typed problem w h v iv).this in (r.0, r.1)

  -- the root is of its class
  pub root_typed : (o : ℕ) → value_at problem v 0 ≡ Reference o → IsOf problem.program.table (object_types problem) (ClassType (root_class problem)) (Reference o)
  root_typed o e = let r = (is_typed problem w h v iv).this in subst (λ (x : Value). IsOf table types (ClassType (root_class problem)) x) (sym r.1 ∙ e) r.2
