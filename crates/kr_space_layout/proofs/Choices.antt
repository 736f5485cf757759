-- The values of stretches are the values of the domains that their entries make.
use Rattle.std.proofs.Common.{◌≡◌, ℕ, zero, suc, ◌+◌, ◌<◌, ◌≤◌, ◌⊎◌, inl, inr, List, [], ◌∷◌, ◌++◌, length, get_or, Some, refl, sym, ap, ◌∙◌, arith, subst}
use Rattle.std.specs.Prelude.{ℤ, map, flat_map}
use Rattle.std.specs.List.{range_with_len}
use Rattle.std.proofs.lemmas.List.{append-nil, get_or_past}
use Rattle.std.proofs.lemmas.List.Concat.{flat_map-append}
use Rattle.std.proofs.lemmas.Bool.{cases_lt}
use Rattle.kr_value.specs.declared.value.Value.TheVariants.{Int, Ref as Reference}
use Rattle.kr_mean.specs.Problem as problems
use Rattle.kr_mean.specs.Problem.{Problem, Domain, Choice, objects_before, item_choices, choices_in, domain_at, no_objects}
use Rattle.kr_space_layout.specs.declared.classes.ClassDomain.{ClassDomain}
use Rattle.kr_space_layout.specs.declared.item.DomainEntry.{DomainEntry}
use Rattle.kr_space_layout.specs.declared.item.DomainEntry.TheVariants.{Plain, Integers, Objects}
use Rattle.kr_space_layout.specs.declared.stretch.Block.{Block}
use Rattle.kr_space_layout.specs.Items as entries
use Rattle.kr_space_layout.specs.Items.{integers}
use Rattle.kr_space_layout.specs.Stretches.{integer_choice, object_choice, choices_of, all_choices, domain_of, meant, no_block, stretch_of}
use Rattle.kr_space_layout.specs.Bounds.{class_domain}
use Rattle.kr_space_layout.specs.Tables.{blocks_from}
use Rattle.kr_space_layout.proofs.Both.{ap2}

-- ---- blocks

-- the class domain of a number
pub record IsBlock (d first : ℕ) (ds : List problems.ClassDomain) (i : ℕ) (b : Block) : Type 0 where
  pub domain : b.domain ≡ d + i
  pub count : b.count ≡ (get_or ds i no_objects).count
  pub before : i < length ds → b.first ≡ first + objects_before i ds

pub block_is : (domains : List Domain) (d first : ℕ) (cs : List ClassDomain) (i m : ℕ) → m ≡ d + i → IsBlock d first (map (class_domain domains) cs) i (get_or (blocks_from d first cs) i (no_block m))
block_is domains d first [] i m e = record { domain = e; count = refl; before = λ h. absurd (omega arith) }
block_is domains d first (c ∷ cs) zero m e = record { domain = omega arith; count = refl; before = λ h. omega arith }
block_is domains d first (c ∷ cs) (suc i) m e =
    let r = block_is domains (d + 1) (first + c.count) cs i m (omega arith) in
    record { domain = omega (arith, r.domain); count = r.count; before = λ h. omega (arith, r.before (omega arith)) }

-- ---- the values of an entry

integers_are : (problem : Problem) (zs : List ℤ) → flat_map (item_choices problem) (map (λ z. problems.Plain (Int z)) zs) ≡ map integer_choice zs
integers_are problem [] = refl
integers_are problem (z ∷ zs) = ap (λ (xs : List Choice). integer_choice z ∷ xs) (integers_are problem zs)

objects_are : (problem : Problem) (b : Block) (d a n : ℕ) → b.domain ≡ d → b.first ≡ objects_before d problem.domains
    → map (problems.object_choice problem) (map (λ k. record { domain = d; number = k }) (range_with_len a n)) ≡ map (object_choice b) (range_with_len a n)
objects_are problem b d a zero e f = refl
objects_are problem b d a (suc n) e f =
    ap2 (λ (x : Choice) (xs : List Choice). x ∷ xs)
    (ap2 (λ (m : ℕ) (c : ℕ). record { value = Reference (m + a); object = Some (record { domain = c; number = a }) }) (sym f) (sym e))
    (objects_are problem b d (a + 1) n e f)

module _ (problem : Problem) (domains : List Domain) (classes : List ClassDomain) (e : problem.domains ≡ map (class_domain domains) classes) where
  abbrev blocks : List Block
  blocks = blocks_from 0 0 classes

  item_is : (item : DomainEntry) → flat_map (item_choices problem) (entries.meant item) ≡ choices_of (stretch_of blocks item)
  item_is (Plain v) = refl
  item_is (Integers from to) = integers_are problem (integers from to)
  item_is (Objects d) = append-nil (item_choices problem (problems.Objects d)) ∙ go (cases_lt d (length problem.domains))
    where
      b : Block
      b = get_or blocks d (no_block d)

      r : IsBlock 0 0 (map (class_domain domains) classes) d b
      r = block_is domains 0 0 classes d d (omega arith)

      count : (domain_at problem d).count ≡ b.count
      count = ap (λ (ds : List problems.ClassDomain). (get_or ds d no_objects).count) e ∙ sym r.count

      none : (n : ℕ) → n ≡ 0 → map (problems.object_choice problem) (map (λ k. record { domain = d; number = k }) (range_with_len 0 n)) ≡ map (object_choice b) (range_with_len 0 n)
      none zero z = refl
      none (suc n) z = absurd (omega arith)

      go : (d < length problem.domains) ⊎ (length problem.domains ≤ d) → item_choices problem (problems.Objects d) ≡ map (object_choice b) (range_with_len 0 b.count)
      go (inl lt) =
          let inside : d < length (map (class_domain domains) classes) = subst (λ (ds : List problems.ClassDomain). d < length ds) e lt in
          let first : b.first ≡ objects_before d problem.domains = omega (arith, r.before inside) ∙ ap (λ (ds : List problems.ClassDomain). objects_before d ds) (sym e) in
          ap (λ (n : ℕ). map (problems.object_choice problem) (map (λ k. record { domain = d; number = k }) (range_with_len 0 n))) count
          ∙ objects_are problem b d 0 b.count (omega (arith, r.domain)) first
      go (inr le) =
          let z : (domain_at problem d).count ≡ 0 = ap (λ (c : problems.ClassDomain). c.count) (get_or_past problem.domains d no_objects le) in
          none (domain_at problem d).count z ∙ ap (λ (n : ℕ). map (object_choice b) (range_with_len 0 n)) count

  pub choices_are : (items : List DomainEntry) → choices_in problem (entries.domain_of items) ≡ all_choices (map (stretch_of blocks) items)
  choices_are [] = refl
  choices_are (i ∷ is) = flat_map-append (item_choices problem) (entries.meant i) (entries.domain_of is) ∙ ap2 (λ (x : List Choice) (y : List Choice). x ++ y) (item_is i) (choices_are is)

-- the domain of stretches is the one of their entries
meant_is : (classes : List ClassDomain) (item : DomainEntry) → meant (stretch_of (blocks_from 0 0 classes) item) ≡ entries.meant item
meant_is classes (Plain v) = refl
meant_is classes (Integers from to) = refl
meant_is classes (Objects d) = ap (λ (n : ℕ). problems.Objects n ∷ []) (let r = block_is [] 0 0 classes d d (omega arith) in omega (arith, r.domain))

pub domain_is : (classes : List ClassDomain) (items : List DomainEntry) → domain_of (map (stretch_of (blocks_from 0 0 classes)) items) ≡ entries.domain_of items
domain_is classes [] = refl
domain_is classes (i ∷ is) = ap2 (λ (x : Domain) (y : Domain). x ++ y) (meant_is classes i) (domain_is classes is)

pub domains_are : (classes : List ClassDomain) (lists : List (List DomainEntry)) → map domain_of (map (λ (l : List DomainEntry). map (stretch_of (blocks_from 0 0 classes)) l) lists) ≡ map entries.domain_of lists
domains_are classes [] = refl
domains_are classes (l ∷ ls) = ap2 (λ (x : Domain) (xs : List Domain). x ∷ xs) (domain_is classes l) (domains_are classes ls)
