-- The table of slots is the slots of the problem.
use Rattle.std.proofs.Common.{◌≡◌, ℕ, zero, suc, ◌+◌, List, [], ◌∷◌, ◌++◌, length, get_or, Some, None, refl, sym, ap, ◌∙◌, arith, append_assoc}
use Rattle.std.specs.Prelude.{map, flat_map}
use Rattle.std.specs.List.{range_with_len}
use Rattle.std.proofs.lemmas.List.{length-append, map-append, get_or_at}
use Rattle.std.proofs.lemmas.List.Concat.{flat_map-append}
use Rattle.kr_mean.specs.Problem as problems
use Rattle.kr_mean.specs.Problem.{Problem, Domain, Slot, objects_before, objects_from, objects_of_domain, slots, slots_of_object, parameter_slots, domain_at, no_objects, heap_number}
use Rattle.kr_mean.specs.Places.{This, Parameter, At}
use Rattle.kr_space_layout.specs.declared.classes.Spotted.{Spotted}
use Rattle.kr_space_layout.specs.declared.classes.ClassDomain.{ClassDomain}
use Rattle.kr_space_layout.specs.declared.stretch.Block.{Block}
use Rattle.kr_space_layout.specs.Bounds.{spotted, class_domain}
use Rattle.kr_space_layout.specs.Tables.{blocks_from, parameter_entries, spot_entry, object_entries, class_entries, entries_with, all_entries, slot_of}
use Rattle.kr_space_layout.proofs.Both.{ap2}

pub parameters_long : (i : ℕ) (ps : List ℕ) → length (parameter_entries i ps) ≡ length ps
parameters_long i [] = refl
parameters_long i (p ∷ ps) = ap suc (parameters_long (i + 1) ps)

pub blocks_long : (d first : ℕ) (cs : List ClassDomain) → length (blocks_from d first cs) ≡ length cs
blocks_long d first [] = refl
blocks_long d first (c ∷ cs) = ap suc (blocks_long (d + 1) (first + c.count) cs)

-- ---- the objects before a class domain

abbrev pub count_all : List problems.ClassDomain → ℕ
count_all [] = 0
count_all (c ∷ cs) = c.count + count_all cs

pub before_all : (cs ds : List problems.ClassDomain) → objects_before (length cs) (cs ++ ds) ≡ count_all cs
before_all [] ds = refl
before_all (c ∷ cs) ds = ap (λ (n : ℕ). c.count + n) (before_all cs ds)

pub count_more : (cs : List problems.ClassDomain) (c : problems.ClassDomain) → count_all (cs ++ c ∷ []) ≡ count_all cs + c.count
count_more [] c = omega arith
count_more (d ∷ cs) c = omega (arith, count_more cs c)

-- ---- slots

module _ (problem : Problem) (root : ℕ) (domains : List Domain) where
  parameters_are : (i : ℕ) (ps : List ℕ) → map (slot_of root domains) (parameter_entries i ps) ≡ parameter_slots i (map (λ p. get_or domains p []) ps)
  parameters_are i [] = refl
  parameters_are i (p ∷ ps) = ap (λ (xs : List Slot). record { place = Parameter i; owner = None; domain = get_or domains p [] } ∷ xs) (parameters_are (i + 1) ps)

  spots_are : (b : Block) (k : ℕ) (n : ℕ) → n ≡ b.first + k → (ss : List Spotted)
      → map (λ (s : problems.Spotted). record { place = At n s.spot; owner = Some (record { domain = b.domain; number = k }); domain = s.domain }) (map (spotted domains) ss) ≡ map (slot_of root domains) (map (spot_entry b k) ss)
  spots_are b k n e [] = refl
  spots_are b k n e (s ∷ ss) = ap2 (λ (x : Slot) (xs : List Slot). x ∷ xs)
      (ap (λ (m : ℕ). record { place = At m s.spot; owner = Some (record { domain = b.domain; number = k }); domain = get_or domains s.domain [] }) e)
      (spots_are b k n e ss)

  -- the slots of an object of a class domain of the problem
  object_is : (b : Block) (c : ClassDomain) → domain_at problem b.domain ≡ class_domain domains c → objects_before b.domain problem.domains ≡ b.first → (k : ℕ) → slots_of_object problem (record { domain = b.domain; number = k }) ≡ map (slot_of root domains) (object_entries b c.spots k)
  object_is b c e f k =
      let n = heap_number problem (record { domain = b.domain; number = k }) in
      ap (λ (x : problems.ClassDomain). map (λ (s : problems.Spotted). record { place = At n s.spot; owner = Some (record { domain = b.domain; number = k }); domain = s.domain }) x.spots) e
      ∙ spots_are b k n (ap (λ (m : ℕ). m + k) f) c.spots

  rows_are : (b : Block) (c : ClassDomain) → domain_at problem b.domain ≡ class_domain domains c → objects_before b.domain problem.domains ≡ b.first → (a n : ℕ)
      → flat_map (slots_of_object problem) (map (λ k. record { domain = b.domain; number = k }) (range_with_len a n)) ≡ map (slot_of root domains) (flat_map (object_entries b c.spots) (range_with_len a n))
  rows_are b c e f a zero = refl
  rows_are b c e f a (suc n) =
      ap2 (λ (x : List Slot) (y : List Slot). x ++ y) (object_is b c e f a) (rows_are b c e f (a + 1) n)
      ∙ sym (map-append (slot_of root domains) (object_entries b c.spots a) (flat_map (object_entries b c.spots) (range_with_len (a + 1) n)))

  -- the slots of all objects of the class domains after some
  classes_are : (before : List problems.ClassDomain) (d first : ℕ) (cs : List ClassDomain) → problem.domains ≡ before ++ map (class_domain domains) cs → length before ≡ d → count_all before ≡ first
      → flat_map (slots_of_object problem) (objects_from d (map (class_domain domains) cs)) ≡ map (slot_of root domains) (entries_with (blocks_from d first cs) cs)
  classes_are before d first [] e l f = refl
  classes_are before d first (c ∷ cs) e l f =
      let x = class_domain domains c in
      let xs = map (class_domain domains) cs in
      let b : Block = record { domain = d; first = first; count = c.count } in
      let here : domain_at problem d ≡ x = ap (λ (ds : List problems.ClassDomain). get_or ds d no_objects) e ∙ get_or_at before x xs no_objects d l in
      let start : objects_before d problem.domains ≡ first =
      ap (λ (ds : List problems.ClassDomain). objects_before d ds) e ∙ (ap (λ (m : ℕ). objects_before m (before ++ x ∷ xs)) (sym l) ∙ (before_all before (x ∷ xs) ∙ f)) in
      let more = classes_are (before ++ x ∷ []) (d + 1) (first + c.count) cs (e ∙ sym (append_assoc before (x ∷ []) xs)) (length-append before (x ∷ []) ∙ ap (λ (m : ℕ). m + 1) l) (count_more before x ∙ ap (λ (m : ℕ). m + c.count) f) in
      flat_map-append (slots_of_object problem) (objects_of_domain d x) (objects_from (d + 1) xs)
      ∙ (ap2 (λ (y : List Slot) (z : List Slot). y ++ z) (rows_are b c here start 0 c.count) more
      ∙ sym (map-append (slot_of root domains) (class_entries b c.spots) (entries_with (blocks_from (d + 1) (first + c.count) cs) cs)))

  -- all slots
  pub slots_are : (parameters : List ℕ) (classes : List ClassDomain) → problem.root ≡ root → problem.parameters ≡ map (λ p. get_or domains p []) parameters → problem.domains ≡ map (class_domain domains) classes
      → slots problem ≡ map (slot_of root domains) (all_entries parameters (blocks_from 0 0 classes) classes)
  slots_are parameters classes r p e =
      ap (λ (n : ℕ). record { place = This; owner = None; domain = problems.Objects n ∷ [] } ∷ (parameter_slots 0 problem.parameters ++ flat_map (slots_of_object problem) (objects_from 0 problem.domains))) r
      ∙ ap (λ (xs : List Slot). record { place = This; owner = None; domain = problems.Objects root ∷ [] } ∷ xs)
      (ap2 (λ (x : List Slot) (y : List Slot). x ++ y)
      (ap (parameter_slots 0) p ∙ sym (parameters_are 0 parameters))
      (ap (λ (ds : List problems.ClassDomain). flat_map (slots_of_object problem) (objects_from 0 ds)) e ∙ classes_are [] 0 0 classes e refl refl)
      ∙ sym (map-append (slot_of root domains) (parameter_entries 0 parameters) (entries_with (blocks_from 0 0 classes) classes)))
