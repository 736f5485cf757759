-- A structure's text goes through the walk: what is written of each object is contiguous, in the order of its slots.
use Rattle.std.proofs.Common.{◌≡◌, ℕ, zero, suc, ◌+◌, ◌-◌, ◌<◌, ◌≤◌, inl, inr, Bool, true, false, List, [], ◌∷◌, ◌++◌, length, get_or, Option, Some, None, refl, sym, ap, ◌∙◌, arith, subst}
use Rattle.std.specs.Prelude.{map, flat_map, codes, if◌then◌else◌}
use Rattle.std.specs.List.{range_with_len}
use Rattle.std.proofs.lemmas.List.{append-nil}
use Rattle.std.proofs.lemmas.List.Concat.{flat_map-append}
use Rattle.std.proofs.lemmas.List.Folds.{flat_map-map}
use Rattle.kr_laws_runs.proofs.Respects.{AllOf}
use Rattle.kr_value.specs.declared.object.Class.{Class}
use Rattle.kr_value.specs.declared.object.Spot.{Spot}
use Rattle.kr_value.specs.declared.value.Value.{Value}
use Rattle.kr_value.specs.declared.value.Value.TheVariants.{Int, Bool as Truth, Null, Ref as Reference}
use Rattle.kr_mean.specs.Entries.{structure_of}
use Rattle.kr_mean.specs.Heaps.{distinct, is_same_object, is_owner, objects_of, root_slots, slots_in, walk, choice_at, value_at}
use Rattle.kr_mean.specs.Places.{SlotPlace, At}
use Rattle.kr_mean.specs.Problem.{Problem, DomainObject, Choice, Slot, all_objects, choices_at, domain_at, heap_number, object_choice, slot_at, upto}
use Rattle.kr_mean.specs.Space.{no_choice}
use Rattle.kr_mean.specs.WellFormed.{IsPlain, IsWellFormed}
use Rattle.kr_laws_pruning.proofs.Flattened.{flat_flat, flat_none, flat_same, only_one}
use Rattle.kr_laws_pruning.proofs.Membership.{Has}
use Rattle.kr_laws_pruning.proofs.Numbering.{object, first_slot, parameters, parameter_slot, object_slot, spotted_at, width_at, object_at_number}
use Rattle.kr_laws_pruning.proofs.Places.{same_object, slots_in_are, extent, extent_within}
use Rattle.kr_laws_pruning.proofs.Reached.{Apart, apart_distinct, settled}
use Rattle.kr_laws_pruning.proofs.SlotForks.{all_map}
use Rattle.kr_laws_pruning.proofs.Spaces.{block_of, plain_choice}
use Rattle.kr_laws_pruning.proofs.Walked.{Below, Valid, all_flat, met_valid, objects_there, walk_below, walked}
use Rattle.kr_report.specs.Texts.{structure_text, object_text, parts_of, part_text, parameter_text, objects_in, objects_named, in_brackets, in_parentheses, joined_by, object_name}
use Rattle.kr_report_rows.specs.Written.{written, object_written, parts_written, part_at, parameter_written, met}

-- ---- lists

map_same : {A B : Type 0} (f g : A → B) (xs : List A) → ((x : A) → Has x xs → f x ≡ g x) → map f xs ≡ map g xs
map_same f g [] h = refl
map_same f g (x ∷ xs) h = ap (λ y. y ∷ map f xs) (h x (inl refl)) ∙ ap (λ ys. g x ∷ ys) (map_same f g xs (λ y i. h y (inr i)))

module _ (problem : Problem) (w : IsWellFormed problem) (v : List ℕ) where
  abbrev N : ℕ
  N = length (all_objects problem)

  -- ---- whose slots they are

  owner_root : (a : ℕ) → a < parameters problem + 1 → (slot_at problem a).owner ≡ None
  owner_root zero h = refl
  owner_root (suc a) h =
      let e : suc a ≡ a + 1 = omega arith in
      ap (λ (x : ℕ). (slot_at problem x).owner) e ∙ ap (λ (x : Slot). x.owner) (parameter_slot problem a (omega (arith, h))).1

  roots_from : (a m : ℕ) → a + m ≤ parameters problem + 1 → AllOf (λ s. (slot_at problem s).owner ≡ None) (range_with_len a m)
  roots_from a zero h = tt
  roots_from a (suc m) h = (owner_root a (omega (arith, h)), roots_from (a + 1) m (omega (arith, h)))

  owned : (o : DomainObject) → Valid problem o → AllOf (λ s. (slot_at problem s).owner ≡ Some o) (slots_in problem v o)
  owned o h = subst (AllOf (λ s. (slot_at problem s).owner ≡ Some o)) (sym (slots_in_are problem w v o.domain o.number h.0 h.1)) (go 0 (extent problem w v o.domain o.number) (first_slot problem o.domain o.number) (omega arith) (omega (arith, extent_within problem w v o.domain o.number h.0 h.1)))
    where
      go : (j m x : ℕ) → x ≡ first_slot problem o.domain o.number + j → j + m ≤ width_at problem o.domain → AllOf (λ s. (slot_at problem s).owner ≡ Some o) (range_with_len x m)
      go j zero x e l = tt
      go j (suc m) x e l = (
        ap (λ (s : ℕ). (slot_at problem s).owner) e ∙ ap (λ (s : Slot). s.owner) (object_slot problem o.domain o.number j h.0 h.1 (omega (arith, l))).1,
        go (j + 1) m (x + 1) (omega (arith, e)) (omega (arith, l)),
      )

  apart : Apart (met problem v)
  apart = subst Apart (settled problem w v) (apart_distinct is_same_object same_object (objects_there problem v (walked problem v N)))

  -- ---- the parts of an object

  module _ (o : DomainObject) where
    abbrev class : Class
    class = (domain_at problem o.domain).class

    abbrev part : ℕ → List (List ℕ)
    part s = if is_owner o (slot_at problem s).owner then part_at problem v class s else []

    none_of : (s : ℕ) → (slot_at problem s).owner ≡ None → part s ≡ []
    none_of s e = ap (λ (x : Option DomainObject). if is_owner o x then part_at problem v class s else []) e

    some_of : (m : DomainObject) (s : ℕ) → (slot_at problem s).owner ≡ Some m → part s ≡ (if is_same_object o m then part_at problem v class s else [])
    some_of m s e = ap (λ (x : Option DomainObject). if is_owner o x then part_at problem v class s else []) e

    by_object : (b : Bool) (ss : List ℕ) → flat_map (λ s. if b then part_at problem v class s else []) ss ≡ (if b then flat_map (part_at problem v class) ss else [])
    by_object true ss = refl
    by_object false [] = refl
    by_object false (s ∷ ss) = by_object false ss

    of_object : (m : DomainObject) → Valid problem m → flat_map part (slots_in problem v m) ≡ (if is_same_object o m then flat_map (part_at problem v class) (slots_in problem v m) else [])
    of_object m h =
        flat_same part (λ s. if is_same_object o m then part_at problem v class s else []) (λ s. (slot_at problem s).owner ≡ Some m) (slots_in problem v m) (some_of m) (owned m h)
        ∙ by_object (is_same_object o m) (slots_in problem v m)

    pub parts_are : Has o (met problem v) → parts_of problem (structure_of problem v) o ≡ parts_written problem v o
    unfolding walk
    parts_are h =
        flat_map-map (λ (p : ℕ × Value). if is_owner o (slot_at problem p.0).owner then part_text problem class p.1 (slot_at problem p.0).place else []) (λ (s : ℕ). (s, value_at problem v s)) (walked problem v N)
        ∙ (flat_map-append part (root_slots problem) (flat_map (slots_in problem v) (met problem v))
        ∙ (ap (λ (xs : List (List ℕ)). xs ++ flat_map part (flat_map (slots_in problem v) (met problem v))) (flat_none part (λ s. (slot_at problem s).owner ≡ None) (root_slots problem) none_of (roots_from 0 (parameters problem + 1) (omega arith)))
        ∙ (flat_flat part (slots_in problem v) (met problem v)
        ∙ (flat_same (λ m. flat_map part (slots_in problem v m)) (λ m. if is_same_object o m then flat_map (part_at problem v class) (slots_in problem v m) else []) (Valid problem) (met problem v) of_object (met_valid problem v N)
        ∙ only_one (λ m. flat_map (part_at problem v class) (slots_in problem v m)) o (met problem v) apart h))))

  -- a spot of an object
  abbrev IsSpot : ℕ → Type 0
  IsSpot s = (o : ℕ) × (spot : Spot) × ((slot_at problem s).place ≡ At o spot)

  -- ---- the objects that are named

  plain_names : (x : Value) → IsPlain x → objects_in problem x ≡ []
  plain_names (Int n) h = refl
  plain_names (Truth b) h = refl
  plain_names Null h = refl
  plain_names (Reference n) h = absurd h

  named_at : (s : ℕ) → Below problem s → objects_in problem (value_at problem v s) ≡ objects_of (choice_at problem v s).object
  named_at s h = go (choice_at problem v s).object refl
    where
      go : (x : Option DomainObject) → (choice_at problem v s).object ≡ x → objects_in problem (value_at problem v s) ≡ objects_of x
      go None e = plain_names (value_at problem v s) (plain_choice problem (slot_at problem s).domain (get_or v s 0) (w.plain s h) e)
      go (Some o) e =
          let b = block_of problem (slot_at problem s).domain (get_or v s 0) o e in
          let i : get_or v s 0 - o.number + o.number ≡ get_or v s 0 = omega (arith, b.room) in
          let is : choice_at problem v s ≡ object_choice problem o = ap (λ (x : ℕ). get_or (choices_at problem s) x no_choice) (sym i) ∙ b.all o.number b.in_number in
          ap (λ (c : Choice). objects_in problem c.value) is ∙ ap (λ (x : DomainObject). x ∷ []) (object_at_number problem o.domain o.number b.in_domain b.in_number).1

  pub named_are : objects_named problem (structure_of problem v) ≡ met problem v
  unfolding walk
  named_are =
      ap (distinct is_same_object) (flat_map-map (λ (p : ℕ × Value). objects_in problem p.1) (λ (s : ℕ). (s, value_at problem v s)) (walked problem v N)
      ∙ flat_same (λ s. objects_in problem (value_at problem v s)) (λ s. objects_of (choice_at problem v s).object) (Below problem) (walked problem v N) named_at (walk_below problem w v N))
      ∙ settled problem w v

  -- ---- the parameters

  abbrev parameter_part : ℕ → List (List ℕ)
  parameter_part s = parameter_text problem (value_at problem v s) (slot_at problem s).place

  no_parameter : (s : ℕ) → IsSpot s → parameter_part s ≡ []
  no_parameter s h = ap (λ (p : SlotPlace). parameter_text problem (value_at problem v s) p) h.2

  parameters_from : (a m : ℕ) → a + m ≤ parameters problem → flat_map parameter_part (range_with_len (a + 1) m) ≡ map (parameter_written problem v) (range_with_len a m)
  parameters_from a zero h = refl
  parameters_from a (suc m) h =
      ap (λ (p : SlotPlace). parameter_text problem (value_at problem v (a + 1)) p ++ flat_map parameter_part (range_with_len (a + 1 + 1) m)) (ap (λ (x : Slot). x.place) (parameter_slot problem a (omega (arith, h))).1)
      ∙ ap (λ (ts : List (List ℕ)). parameter_written problem v a ∷ ts) (parameters_from (a + 1) m (omega (arith, h)))

  spots_of : (o : DomainObject) → Valid problem o → AllOf IsSpot (slots_in problem v o)
  spots_of o h = subst (AllOf IsSpot) (sym (slots_in_are problem w v o.domain o.number h.0 h.1)) (go 0 (extent problem w v o.domain o.number) (first_slot problem o.domain o.number) (omega arith) (omega (arith, extent_within problem w v o.domain o.number h.0 h.1)))
    where
      go : (j m x : ℕ) → x ≡ first_slot problem o.domain o.number + j → j + m ≤ width_at problem o.domain → AllOf IsSpot (range_with_len x m)
      go j zero x e l = tt
      go j (suc m) x e l = (
        (heap_number problem (object o.domain o.number), (spotted_at problem o.domain j).spot, ap (λ (s : ℕ). (slot_at problem s).place) e ∙ ap (λ (s : Slot). s.place) (object_slot problem o.domain o.number j h.0 h.1 (omega (arith, l))).1),
        go (j + 1) m (x + 1) (omega (arith, e)) (omega (arith, l)),
      )

  parameters_are : flat_map (λ (p : ℕ × Value). parameter_text problem p.1 (slot_at problem p.0).place) (structure_of problem v) ≡ map (parameter_written problem v) (upto (parameters problem))
  unfolding walk
  parameters_are =
      let one : parameters problem + 1 ≡ suc (parameters problem) = omega arith in
      flat_map-map (λ (p : ℕ × Value). parameter_text problem p.1 (slot_at problem p.0).place) (λ (s : ℕ). (s, value_at problem v s)) (walked problem v N)
      ∙ (flat_map-append parameter_part (root_slots problem) (flat_map (slots_in problem v) (met problem v))
      ∙ (ap (λ (ts : List (List ℕ)). flat_map parameter_part (root_slots problem) ++ ts) (flat_none parameter_part IsSpot (flat_map (slots_in problem v) (met problem v)) no_parameter (all_flat IsSpot (slots_in problem v) (met problem v) (all_map (Valid problem) (λ o. AllOf IsSpot (slots_in problem v o)) (met problem v) spots_of (met_valid problem v N))))
      ∙ (append-nil (flat_map parameter_part (root_slots problem))
      ∙ (ap (λ (n : ℕ). flat_map parameter_part (range_with_len 0 n)) one ∙ parameters_from 0 (parameters problem) (omega arith)))))

  -- ---- the whole

  object_is : (o : DomainObject) → Has o (met problem v) → object_text problem (structure_of problem v) o ≡ object_written problem v o
  object_is o h = ap (λ (ts : List (List ℕ)). object_name problem o ++ in_brackets (domain_at problem o.domain).class (joined_by (codes ",") ts)) (parts_are o h)

  pub written_is : structure_text problem (structure_of problem v) ≡ written problem v
  unfolding structure_text
  written_is =
      ap (λ (ts : List (List ℕ)). in_parentheses ts ++ joined_by (codes " ") (map (object_text problem (structure_of problem v)) (objects_named problem (structure_of problem v)))) parameters_are
      ∙ (ap (λ (os : List DomainObject). in_parentheses (map (parameter_written problem v) (upto (parameters problem))) ++ joined_by (codes " ") (map (object_text problem (structure_of problem v)) os)) named_are
      ∙ ap (λ (ts : List (List ℕ)). in_parentheses (map (parameter_written problem v) (upto (parameters problem))) ++ joined_by (codes " ") ts) (map_same (object_text problem (structure_of problem v)) (object_written problem v) (met problem v) object_is))
