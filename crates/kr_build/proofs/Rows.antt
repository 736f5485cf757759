-- Slots and values of vectors, and the slots of objects.
use Rattle.std.proofs.Common.{◌≡◌, ℕ, zero, suc, ◌+◌, ◌*◌, ◌<◌, ◌≤◌, true, List, [], ◌∷◌, length, get_or, refl, sym, ap, ◌∙◌, arith, Some}
use Rattle.std.specs.List.{range_with_len}
use Rattle.kr_value.specs.declared.object.Class.{Class}
use Rattle.kr_value.specs.declared.object.Class.TheVariants.{Object, Array, Set, List as ListClass}
use Rattle.kr_value.specs.declared.value.Value.{Value}
use Rattle.kr_mean.specs.Problem.{Problem, ClassDomain, DomainObject, Spotted, domain_at, slots, slot_at, choices_at}
use Rattle.kr_mean.specs.Space.{IsVector, space_of}
use Rattle.kr_mean.specs.WellFormed.{AreSpots, IsWellFormed}
use Rattle.kr_mean.specs.Heaps.{choice_at, length_in, slots_in, value_at}
use Rattle.kr_space_layout.specs.Layouts.{first_slot, slots_before}
use Rattle.kr_laws_pruning.proofs.Numbering as numbering
use Rattle.kr_laws_pruning.proofs.Numbering.{object, width_at, object_slot}
use Rattle.kr_laws_pruning.proofs.Places as places
use Rattle.kr_laws_pruning.proofs.Places.{extent_within, slots_in_are}
use Rattle.kr_laws_pruning.proofs.Spaces.{block_of}
use Rattle.kr_build.specs.Extents.{extent_of, is_array}

pub record InVector (problem : Problem) (v : List ℕ) (s : ℕ) : Type 0 where
  pub slot : s < length v
  pub index : get_or v s 0 < length (choices_at problem s)

pub in_vector : (problem : Problem) (v : List ℕ) (s : ℕ) → IsVector (space_of problem) v → s < length (slots problem) → InVector problem v s
unfolding space_of
in_vector problem v s i h = record { slot = omega (arith, h, i.long); index = i.within s h }

-- an object that is chosen is one of its class domain
pub record InDomain (problem : Problem) (o : DomainObject) : Type 0 where
  pub domain : o.domain < length problem.domains
  pub number : o.number < (domain_at problem o.domain).count

pub in_domain : (problem : Problem) (v : List ℕ) (s : ℕ) (o : DomainObject) → (choice_at problem v s).object ≡ Some o → InDomain problem o
in_domain problem v s o e = let b = block_of problem (slot_at problem s).domain (get_or v s 0) o e in record { domain = b.in_domain; number = b.in_number }

-- ---- first slots

before_same : (d : ℕ) (ds : List ClassDomain) → slots_before d ds ≡ numbering.slots_before d ds
before_same zero ds = refl
before_same (suc d) [] = refl
before_same (suc d) (c ∷ cs) = ap (λ (n : ℕ). c.count * length c.spots + n) (before_same d cs)

pub first_same : (problem : Problem) (d k : ℕ) → first_slot problem (object d k) ≡ numbering.first_slot problem d k
first_same problem d k = omega (arith, before_same d problem.domains)

extent_same : (c : Class) (n : ℕ) (x : Value) → extent_of c n x ≡ places.extent_of c n x
extent_same (Object c) n x = refl
extent_same (Array t) n x = refl
extent_same Set n x = refl
extent_same ListClass n x = refl

-- an array has a slot
array_wide : (c : Class) (ss : List Spotted) → AreSpots c ss → is_array c ≡ true → 0 < length ss
array_wide (Object c) ss a e = absurd (cc (e))
array_wide Set ss a e = absurd (cc (e))
array_wide ListClass ss a e = absurd (cc (e))
array_wide (Array t) [] a e = absurd a
array_wide (Array t) (s ∷ ss) a e = omega arith

-- the length of an array that has so many slots
pub array_short : (c : Class) (width : ℕ) (x : Value) → is_array c ≡ true → extent_of c width x ≤ width → width < 2147483648 → length_in x < 2147483648
array_short (Object c) width x e h l = absurd (cc (e))
array_short Set width x e h l = absurd (cc (e))
array_short ListClass width x e h l = absurd (cc (e))
array_short (Array t) width x e h l = omega (arith, h, l)

pub record Row (problem : Problem) (v : List ℕ) (d k : ℕ) : Type 0 where
  pub inside : (j : ℕ) → j < width_at problem d → first_slot problem (object d k) + j < length (slots problem)
  pub array : is_array (domain_at problem d).class ≡ true → first_slot problem (object d k) < length (slots problem)
  pub within : extent_of (domain_at problem d).class (width_at problem d) (value_at problem v (first_slot problem (object d k))) ≤ width_at problem d
  pub are : range_with_len (first_slot problem (object d k)) (extent_of (domain_at problem d).class (width_at problem d) (value_at problem v (first_slot problem (object d k)))) ≡ slots_in problem v (object d k)

pub row : (problem : Problem) (v : List ℕ) (d k : ℕ) → IsWellFormed problem → d < length problem.domains → k < (domain_at problem d).count → Row problem v d k
row problem v d k w a b = record {
  inside = inside;
  array = λ e. let r = inside 0 (array_wide (domain_at problem d).class (domain_at problem d).spots (w.spots d a) e) in omega (arith, r);
  within = omega (arith, extent_within problem w v d k a b, extent);
  are = ap (λ (n : ℕ). range_with_len n e1) (first_same problem d k) ∙ (ap (λ (n : ℕ). range_with_len (numbering.first_slot problem d k) n) extent ∙ sym (slots_in_are problem w v d k a b));
}
  where
    inside : (j : ℕ) → j < width_at problem d → first_slot problem (object d k) + j < length (slots problem)
    inside j h = omega (arith, (object_slot problem d k j a b h).0, first_same problem d k)

    e1 : ℕ
    e1 = extent_of (domain_at problem d).class (width_at problem d) (value_at problem v (first_slot problem (object d k)))

    extent : e1 ≡ places.extent problem w v d k
    extent =
        extent_same (domain_at problem d).class (width_at problem d) (value_at problem v (first_slot problem (object d k)))
        ∙ ap (λ (s : ℕ). places.extent_of (domain_at problem d).class (width_at problem d) (value_at problem v s)) (first_same problem d k)

-- an object has no more slots than there are
pub narrow : (problem : Problem) (v : List ℕ) (d k : ℕ) → Row problem v d k → width_at problem d ≤ length (slots problem)
narrow problem v d k r = go (width_at problem d) r.inside
  where
    go : (n : ℕ) → ((j : ℕ) → j < n → first_slot problem (object d k) + j < length (slots problem)) → n ≤ length (slots problem)
    go zero f = omega arith
    go (suc n) f = let h = f n (omega arith) in omega (arith, h)

-- the roots are slots
pub roots_inside : (problem : Problem) → length problem.parameters + 1 ≤ length (slots problem)
roots_inside problem = omega (arith, numbering.slots_long problem)
