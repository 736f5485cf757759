-- The names and values of a problem whose domains have values of their types can be written.
use Rattle.std.proofs.Common.{◌≡◌, ℕ, zero, suc, ◌+◌, ◌<◌, ◌≤◌, ◌⊎◌, inl, inr, Bool, true, false, List, [], ◌∷◌, ◌++◌, length, get_or, drop, refl, sym, ap, subst, ◌∙◌, arith}
use Rattle.std.specs.Prelude.{ℤ, pos, negsuc, map}
use Rattle.std.specs.List.{AllByRecursion}
use Rattle.std.proofs.lemmas.Bool.{cases_lt}
use Rattle.std.proofs.Math.ListN.{get_or-eq_default}
use Rattle.kr_classes_table.specs.Numbers.{Width, Bits32, Bits64}
use Rattle.kr_classes_table.specs.Table.{Field, fields_of}
use Rattle.kr_classes_table.specs.Types.{JavaType, NumberType, VoidType, ArrayType}
use Rattle.kr_laws_safety.specs.Domains.{HaveDomainsTypes, IsDomainOf, AreDomainsOf, AreAllDomainsOf, AreElementsOf, AreSpotsOf, class_type, domains_of}
use Rattle.kr_laws_safety.specs.Fits.{IsOf, IsWithin}
use Rattle.kr_laws_pruning.proofs.Numbering.{object, object_at_number, object_slot, number_of_object, spotted_at, count_at, parameter_slot, slot_case, SlotCase, is_this, is_parameter, is_spot, no_spot}
use Rattle.kr_mean.specs.Places.{SlotPlace, This, Parameter, At}
use Rattle.kr_mean.specs.Problem.{Problem, Plain, Objects, Domain, DomainObject, Choice, Slot, Spotted, all_objects, choices_at, choices_in, domain_at, heap_number, item_choices, no_slot, object_choice, objects_of_domain, slot_at, slots}
use Rattle.kr_mean.specs.Runs.{root_class}
use Rattle.kr_mean.specs.Space.{no_choice}
use Rattle.kr_mean.specs.WellFormed.{IsWellFormed, AreSpots, AreFields, AreElements, AreLengths}
use Rattle.kr_value.specs.declared.object.Class.{Class}
use Rattle.kr_value.specs.declared.object.Class.TheVariants as classes
use Rattle.kr_value.specs.declared.object.Spot.{Spot}
use Rattle.kr_value.specs.declared.object.Spot.TheVariants.{Field as FieldSpot, Length, Element}
use Rattle.kr_value.specs.declared.value.Value.{Value}
use Rattle.kr_value.specs.declared.value.Value.TheVariants.{Int, Bool as Truth, Null, Ref as Reference}
use Rattle.kr_emit_meaning.specs.Buildable.{array_elements, element_of}
use Rattle.kr_emit_meaning.specs.Builders.{class_of_object, is_long, is_long_spot}
use Rattle.kr_report.specs.Texts.{no_domain_object}
use Rattle.kr_emit_laws.specs.Printable.{IsIdentifier}
use Rattle.kr_emit_laws.specs.Writable.{HasName, HasNames, HasSpotName, HasTypeName, IsWritable, IsWrittenAt, IsWrittenValue}

-- ---- lists

map_at : {A B : Type 0} (h : A → B) (k : ℕ) (all : List A) (x : A) (xs : List A) (d : B) → drop k all ≡ x ∷ xs → get_or (map h all) k d ≡ h x
map_at h zero [] x xs d e = absurd (cc e)
map_at h zero (y ∷ all) x xs d e = let same : y ≡ x = cc in ap h same
map_at h (suc k) [] x xs d e = absurd (cc e)
map_at h (suc k) (y ∷ all) x xs d e = map_at h k all x xs d e

next_drop : {A : Type 0} (k : ℕ) (all : List A) (x : A) (xs : List A) → drop k all ≡ x ∷ xs → drop (suc k) all ≡ xs
next_drop zero [] x xs e = absurd (cc e)
next_drop zero (y ∷ all) x xs e = ap (drop 1) e
next_drop (suc k) [] x xs e = absurd (cc e)
next_drop (suc k) (y ∷ all) x xs e = next_drop k all x xs e

all_at : {A : Type 0} (P : A → Type 0) (xs : List A) (i : ℕ) (d : A) → AllByRecursion P xs → P d → P (get_or xs i d)
all_at P [] i d a h = h
all_at P (x ∷ xs) zero d a h = a.0
all_at P (x ∷ xs) (suc i) d a h = all_at P xs i d a.1 h

all_both : {A : Type 0} (P : A → Type 0) (xs ys : List A) → AllByRecursion P xs → AllByRecursion P ys → AllByRecursion P (xs ++ ys)
all_both P [] ys a b = b
all_both P (x ∷ xs) ys a b = (a.0, all_both P xs ys a.1 b)

-- ---- values

within_long : (z : ℤ) → IsWithin Bits64 z → IsWrittenValue true (Int z)
within_long (pos n) h = omega (arith, h)
within_long (negsuc n) h = omega (arith, h)

within_int : (z : ℤ) → IsWithin Bits32 z → IsWrittenValue false (Int z)
within_int (pos n) h = omega (arith, h)
within_int (negsuc n) h = omega (arith, h)

number_written : (w : Width) (z : ℤ) → IsWithin w z → IsWrittenValue (is_long (NumberType w)) (Int z)
number_written Bits32 z h = within_int z h
number_written Bits64 z h = within_long z h

module _ (problem : Problem) where
  abbrev Choices : Bool → Domain → Type 0
  Choices long domain = AllByRecursion (λ (c : Choice). IsWrittenValue long c.value) (choices_in problem domain)

  value_written : (t : JavaType) (v : Value) → IsOf problem.program.table [] t v → IsWrittenValue (is_long t) v
  value_written t (Int z) h = subst (λ (u : JavaType). IsWrittenValue (is_long u) (Int z)) (sym h.1) (number_written h.0 z h.2)
  value_written t (Truth b) h = tt
  value_written t Null h = tt
  value_written t (Reference o) h = tt

  references : (long : Bool) (os : List DomainObject) → AllByRecursion (λ (c : Choice). IsWrittenValue long c.value) (map (object_choice problem) os)
  references long [] = tt
  references long (o ∷ os) = (tt, references long os)

  domain_written : (t : JavaType) (domain : Domain) → IsDomainOf problem t domain → Choices (is_long t) domain
  domain_written t [] h = tt
  domain_written t (Plain v ∷ items) h = (value_written t v h.0, domain_written t items h.1)
  domain_written t (Objects d ∷ items) h =
      all_both (λ (c : Choice). IsWrittenValue (is_long t) c.value) (item_choices problem (Objects d)) (choices_in problem items) (references (is_long t) (objects_of_domain d (domain_at problem d))) (domain_written t items h.1)

  lengths_written : (most : ℕ) (domain : Domain) → most ≤ 2147483648 → AreLengths most domain → Choices false domain
  lengths_written most [] l h = tt
  lengths_written most (Plain (Int (pos n)) ∷ items) l h = (omega (arith, h.0, l), lengths_written most items l h.1)
  lengths_written most (Plain (Int (negsuc n)) ∷ items) l h = absurd h
  lengths_written most (Plain (Truth b) ∷ items) l h = absurd h
  lengths_written most (Plain Null ∷ items) l h = absurd h
  lengths_written most (Plain (Reference o) ∷ items) l h = absurd h
  lengths_written most (Objects d ∷ items) l h = absurd h

  -- ---- spots

  -- a spot of a class's objects has a name, and values that can be written
  abbrev IsGoodSpot : Class → Spotted → Type 0
  IsGoodSpot class s = HasSpotName problem.program class s.spot × Choices (is_long_spot problem.program class s.spot) s.domain

  fields_good : (c k : ℕ) (fs : List Field) (ss : List Spotted) → drop k (fields_of problem.program.table c) ≡ fs → AllByRecursion (λ (f : Field). IsIdentifier f.name) fs → AreFields k ss
      → AreDomainsOf problem (map (λ (f : Field). f.type) fs) (domains_of ss) → AllByRecursion (IsGoodSpot (classes.Object c)) ss
  fields_good c k fs [] e n a h = tt
  fields_good c k [] (s ∷ ss) e n a h = absurd h
  fields_good c k (f ∷ fs) (s ∷ ss) e n a h =
      let all = fields_of problem.program.table c in
      let named : get_or (map (λ (g : Field). g.name) all) k [] ≡ f.name = map_at (λ (g : Field). g.name) k all f fs [] e in
      let typed : get_or (map (λ (g : Field). g.type) all) k VoidType ≡ f.type = map_at (λ (g : Field). g.type) k all f fs VoidType e in
      let here : IsGoodSpot (classes.Object c) (record { spot = FieldSpot k; domain = s.domain }) =
      (subst IsIdentifier (sym named) n.0, subst (λ (t : JavaType). Choices (is_long t) s.domain) (sym typed) (domain_written f.type s.domain h.0)) in
      let on : k + 1 ≡ suc k = omega arith in (
        subst (λ (x : Spot). HasSpotName problem.program (classes.Object c) x × Choices (is_long_spot problem.program (classes.Object c) x) s.domain) (sym a.0) here,
        fields_good c (k + 1) fs ss (ap (λ (j : ℕ). drop j all) on ∙ next_drop k all f fs e) n.1 a.1 h.1,
      )

  elements_good : (a k most : ℕ) (t : JavaType) (ss : List Spotted) → array_elements problem.program a ≡ t → k + length ss ≤ most → most ≤ 2147483648 → AreElements k ss → AreAllDomainsOf problem t ss
      → AllByRecursion (IsGoodSpot (classes.Array a)) ss
  elements_good a k most t [] e l m i h = tt
  elements_good a k most t (s ∷ ss) e l m i h =
      let here : IsGoodSpot (classes.Array a) (record { spot = Element k; domain = s.domain }) =
      (omega (arith, l, m), subst (λ (u : JavaType). Choices (is_long u) s.domain) (sym e) (domain_written t s.domain h.0)) in (
        subst (λ (x : Spot). HasSpotName problem.program (classes.Array a) x × Choices (is_long_spot problem.program (classes.Array a) x) s.domain) (sym i.0) here,
        elements_good a (k + 1) most t ss e (omega (arith, l)) m i.1 h.1,
      )

  array_good : (a : ℕ) (ss : List Spotted) (u : JavaType) → class_type problem.program (classes.Array a) ≡ u → AreSpots (classes.Array a) ss → AreElementsOf problem u ss → AllByRecursion (IsGoodSpot (classes.Array a)) ss
  array_good a [] u e i h = absurd i
  array_good a (s ∷ ss) (ArrayType t) e i h =
      let few : length ss ≤ 2147483648 = omega (arith, h.1) in
      let here : IsGoodSpot (classes.Array a) (record { spot = Length; domain = s.domain }) = (tt, lengths_written (length ss) s.domain few i.2) in (
        subst (λ (x : Spot). HasSpotName problem.program (classes.Array a) x × Choices (is_long_spot problem.program (classes.Array a) x) s.domain) (sym i.0) here,
        elements_good a 0 (length ss) t ss (ap element_of e) (omega arith) few i.1 h.0,
      )
  array_good a (s ∷ ss) u e i h = absurd h

  spots_good : HasNames problem → (class : Class) (ss : List Spotted) → AreSpots class ss → AreSpotsOf problem class ss → AllByRecursion (IsGoodSpot class) ss
  spots_good n (classes.Object c) ss i h = fields_good c 0 (fields_of problem.program.table c) ss refl (n.fields c) i h
  spots_good n (classes.Array a) ss i h = array_good a ss (class_type problem.program (classes.Array a)) refl i h
  spots_good n classes.Set ss i h = absurd i
  spots_good n classes.List ss i h = absurd i

module _ (problem : Problem) (w : IsWellFormed problem) (h : HaveDomainsTypes problem) (n : HasNames problem) where
  -- ---- slots

  abbrev IsGood : Slot → Type 0
  IsGood slot = HasName problem slot.place × AllByRecursion (λ (c : Choice). IsWrittenAt problem slot.place c.value) (choices_in problem slot.domain)

  unbound : (P : Choice → Type 0) (cs : List Choice) → ((c : Choice) → P c) → AllByRecursion P cs
  unbound P [] f = tt
  unbound P (c ∷ cs) f = (f c, unbound P cs f)

  class_is : (d k : ℕ) → d < length problem.domains → k < count_at problem d → class_of_object problem (heap_number problem (object d k)) ≡ (domain_at problem d).class
  class_is d k a b = ap (λ (o : DomainObject). (domain_at problem o.domain).class) (object_at_number problem d k a b).1

  no_spot_good : (class : Class) → IsGoodSpot problem class no_spot
  no_spot_good class = (tt, tt)

  spot_good : (d k j : ℕ) → d < length problem.domains → k < count_at problem d → IsGoodSpot problem (class_of_object problem (heap_number problem (object d k))) (spotted_at problem d j)
  spot_good d k j a b =
      subst (λ (class : Class). IsGoodSpot problem class (spotted_at problem d j)) (sym (class_is d k a b))
      (all_at (IsGoodSpot problem (domain_at problem d).class) (domain_at problem d).spots j no_spot (spots_good problem n (domain_at problem d).class (domain_at problem d).spots (w.spots d a) (h.spots d a)) (no_spot_good (domain_at problem d).class))

  slot_good : (s : ℕ) → IsGood (slot_at problem s)
  slot_good s = go (cases_lt s (length (slots problem)))
    where
      by_case : SlotCase problem s → IsGood (slot_at problem s)
      by_case (is_this e) = subst (λ (x : ℕ). IsGood (slot_at problem x)) (sym e) (tt, unbound (λ c. Unit {0}) (choices_at problem 0) (λ c. tt))
      by_case (is_parameter i l e) =
          subst (λ (x : ℕ). IsGood (slot_at problem x)) (sym e) (subst IsGood (sym (parameter_slot problem i l).1) (tt, unbound (λ c. Unit {0}) (choices_in problem (get_or problem.parameters i [])) (λ c. tt)))
      by_case (is_spot d k j a b l e) = subst (λ (x : ℕ). IsGood (slot_at problem x)) (sym e) (subst IsGood (sym (object_slot problem d k j a b l).1) (spot_good d k j a b))

      go : (s < length (slots problem)) ⊎ (length (slots problem) ≤ s) → IsGood (slot_at problem s)
      go (inl l) = by_case (slot_case problem s l)
      go (inr l) = subst IsGood (sym (get_or-eq_default (slots problem) no_slot l)) (tt, tt)

  null_written : (place : SlotPlace) → IsWrittenAt problem place Null
  null_written This = tt
  null_written (Parameter i) = tt
  null_written (At o spot) = tt

  -- ---- classes

  first_domain : 0 < length problem.domains
  first_domain = omega (arith, w.root)

  class_named : (o : ℕ) → HasTypeName problem.program (class_of_object problem o)
  class_named o = go (cases_lt o (length (all_objects problem)))
    where
      go : (o < length (all_objects problem)) ⊎ (length (all_objects problem) ≤ o) → HasTypeName problem.program (class_of_object problem o)
      go (inl l) =
          let r = number_of_object problem o l in
          subst (λ (x : ℕ). HasTypeName problem.program (class_of_object problem x)) (sym r.is)
          (subst (HasTypeName problem.program) (sym (class_is r.domain r.number r.domain_in r.number_in)) (n.classes r.domain r.domain_in))
      go (inr l) = subst (λ (x : DomainObject). HasTypeName problem.program (domain_at problem x.domain).class) (sym (get_or-eq_default (all_objects problem) no_domain_object l)) (n.classes 0 first_domain)

  pub writable : IsWritable problem
  writable = record {
    root = let named : HasTypeName problem.program (classes.Object (root_class problem)) = subst (HasTypeName problem.program) h.root (n.classes problem.root w.root) in named;
    classes = class_named;
    names = λ s. (slot_good s).0;
    values = λ s i. all_at (λ (c : Choice). IsWrittenAt problem (slot_at problem s).place c.value) (choices_at problem s) i no_choice (slot_good s).1 (null_written (slot_at problem s).place);
  }
