-- The domains of a document that breaks no rule: names without a line feed, few objects, few values of each spot.
use Rattle.std.proofs.Common.{◌≡◌, ℕ, zero, suc, ◌+◌, ◌<◌, ◌≤◌, ◌^◌, ◌==◌, nat_lt, List, [], ◌∷◌, ◌++◌, length, map, get_or, Option, Some, None, refl, sym, ap, ◌∙◌, subst, arith, inl, inr, length-append}
use Rattle.std.specs.Prelude.{codes, unwrap_or}
use Rattle.std.specs.List.{AllByRecursion}
use Rattle.std.proofs.lemmas.Bool.{ltb-false}
use Rattle.kr_classes_table.specs.Types.{JavaType}
use Rattle.kr_classes_table.specs.Table.{Field, Heading, Parameter, fields_of, number_of}
use Rattle.kr_fin.specs.declared.document.ArrayBound.{ArrayBound}
use Rattle.kr_fin.specs.declared.document.Count.{Count}
use Rattle.kr_fin.specs.declared.document.NamedDomain.{NamedDomain}
use Rattle.kr_fin.specs.declared.document.Item.{Item as FinItem}
use Rattle.kr_mean.specs.declared.mode.Mode.{Mode}
use Rattle.kr_mean.specs.Problem.{Problem, Choice, ClassDomain, Domain, Objects, Slot, Spotted, choices_at, choices_in, domain_at, item_choices, no_objects, slots}
use Rattle.kr_space_meaning.specs.declared.refusal.SpaceRule.TheVariants.{EmptyDomain, TooMany, ValueTwice}
use Rattle.kr_space_meaning.specs.Bounds.{Setting, array_class_domain, bounded, declared, domains_of, element_spots, elements_key, field_key, field_spots, field_values, given, greatest, lengths_of, object_domain, parameter_key, parameter_values, root_of, typed_bound, values_of}
use Rattle.kr_space_meaning.specs.Keys.{field_type, parameter_type}
use Rattle.kr_space_meaning.specs.Faults.{S1, S2, S3_S5_S6, S4, S7, S8, S9, faults_in, has_twice, number_faults, numbers_of, numbers_of_lengths, of_arrays}
use Rattle.kr_space_meaning.specs.Names.{array_type}
use Rattle.kr_space_meaning.specs.Order.{break_if}
use Rattle.kr_space_meaning.proofs.Given.{given_holds}
use Rattle.kr_space_meaning.proofs.Each.{each_at, each_mapped, each_of_both, each_weaker, none_each, unbroken}
use Rattle.kr_laws_pruning.proofs.Numbering.{no_spot, object_slot, parameter_slot, spotted_at, SlotCase, is_this, is_parameter, is_spot, slot_case}
use Rattle.kr_laws_pruning.proofs.Spaces.{objects_long}
use Rattle.kr_shard_laws.proofs.Counts.{HasFew, IsNamed, of_declared}
use Rattle.kr_shard_laws.proofs.Numbers.{IsLine}
use Rattle.kr_shard_laws.proofs.Types.{array_line, class_line}
use Rattle.kr_shard_laws.proofs.ProblemNames.{identifier_line}
use Rattle.kr_base.proofs.ListLemmas.{append_is_nil}

-- ---- the rules on numbers

pub record AreNumbered (problem : Problem) (setting : Setting) : Type 0 where
  pub fields : numbers_of problem setting (field_type setting.table) (codes "fields.") setting.document.fields ≡ []
  pub params : numbers_of problem setting (parameter_type setting.table (root_of setting)) (codes "params.") setting.document.params ≡ []
  pub lengths : numbers_of_lengths problem setting setting.document.arrays ≡ []
  pub few : length (slots problem) ≤ 4096

pub numbered : (problem : Problem) (setting : Setting) (mode : Mode) → faults_in problem setting mode ≡ [] → AreNumbered problem setting
unfolding faults_in
numbered problem setting mode e =
    let fields = numbers_of problem setting (field_type setting.table) (codes "fields.") setting.document.fields in
    let params = numbers_of problem setting (parameter_type setting.table (root_of setting)) (codes "params.") setting.document.params in
    let lengths = numbers_of_lengths problem setting setting.document.arrays in
    let this = break_if ((domain_at problem problem.root).count == 0) EmptyDomain (codes "this") in
    let many = break_if (nat_lt 4096 (length (slots problem))) TooMany (codes "slots") in
    let last = S4 setting ++ (S7 setting ++ (S8 setting mode ++ S9 setting)) in
    let behind_names = (append_is_nil (S1 setting) (S2 setting mode ++ (S3_S5_S6 problem setting ++ last)) e).1 in
    let behind_domains = (append_is_nil (S2 setting mode) (S3_S5_S6 problem setting ++ last) behind_names).1 in
    let numbers = (append_is_nil (S3_S5_S6 problem setting) last behind_domains).0 in
    let first = append_is_nil fields (params ++ (lengths ++ (this ++ many))) numbers in
    let second = append_is_nil params (lengths ++ (this ++ many)) first.1 in
    let third = append_is_nil lengths (this ++ many) second.1 in
    let behind_root = (append_is_nil this many third.1).1 in
    record {
      fields = first.0;
      params = second.0;
      lengths = third.0;
      few = ltb-false 4096 (length (slots problem)) (unbroken (nat_lt 4096 (length (slots problem))) TooMany (codes "slots") behind_root);
    }

-- ---- domains with few values

abbrev pub IsSmall : Problem → Domain → Type 0
IsSmall problem domain = length (choices_in problem domain) ≤ 65536

few_choices : (item : List ℕ) (choices : List Choice) → number_faults item choices ≡ [] → length choices ≤ 65536
few_choices item choices e =
    let many = break_if (nat_lt 65536 (length choices)) TooMany item in
    let twice = break_if (has_twice choices) ValueTwice item in
    let rest = (append_is_nil (break_if (length choices == 0) EmptyDomain item) (twice ++ many) e).1 in
    ltb-false 65536 (length choices) (unbroken (nat_lt 65536 (length choices)) TooMany item (append_is_nil twice many rest).1)

-- what holds of each bound holds of those whose array type is known
of_bounded : (P : ArrayBound → Type 0) (Q : JavaType × ArrayBound → Type 0) (hs : List Heading) (bounds : List ArrayBound)
    → ((b : ArrayBound) (t : JavaType) → array_type hs b.name ≡ Some t → P b → Q (t, b)) → AllByRecursion P bounds → AllByRecursion Q (bounded hs bounds)
of_bounded P Q hs [] f h = tt
of_bounded P Q hs (b ∷ bs) f h = each_of_both Q (typed_bound (array_type hs b.name) b) (bounded hs bs) (one (array_type hs b.name) refl) (of_bounded P Q hs bs f h.1)
  where
    one : (o : Option JavaType) → array_type hs b.name ≡ o → AllByRecursion Q (typed_bound o b)
    one None is = tt
    one (Some t) is = (f b t is h.0, tt)

-- a class domain as it should be
pub record IsGood (problem : Problem) (domain : ClassDomain) : Type 0 where
  pub name : IsLine domain.name
  pub count : domain.count ≤ 64
  pub spots : AllByRecursion (λ s. IsSmall problem s.domain) domain.spots

module _ (problem : Problem) (setting : Setting) (is : AreNumbered problem setting) where
  -- what is given for a key of `fields`
  abbrev IsFieldSmall : List ℕ → List FinItem → Type 0
  IsFieldSmall key items = IsSmall problem (values_of setting (field_type setting.table key) items)

  fields_small : AllByRecursion (λ d. IsFieldSmall d.key d.domain) setting.document.fields
  fields_small =
      each_weaker _ (λ (d : NamedDomain). IsFieldSmall d.key d.domain) setting.document.fields
      (λ d none. few_choices (codes "fields." ++ d.key) (choices_in problem (values_of setting (field_type setting.table d.key) d.domain)) none) (none_each _ setting.document.fields is.fields)

  lengths_small : AllByRecursion (λ b. IsSmall problem (lengths_of setting b.lengths)) setting.document.arrays
  lengths_small =
      each_weaker _ (λ (b : ArrayBound). IsSmall problem (lengths_of setting b.lengths)) setting.document.arrays
      (λ b none. few_choices (of_arrays b.name) (choices_in problem (lengths_of setting b.lengths)) none) (none_each _ setting.document.arrays is.lengths)

  given_small : (key : List ℕ) → IsSmall problem (field_values setting key)
  given_small key = go (given setting.document.fields key) refl
    where
      go : (o : Option (List FinItem)) → given setting.document.fields key ≡ o → IsFieldSmall key (unwrap_or o [])
      go None e = omega arith
      go (Some items) e = given_holds IsFieldSmall setting.document.fields key items fields_small e

  -- what is given for a key of `params`
  abbrev IsParameterSmall : List ℕ → List FinItem → Type 0
  IsParameterSmall key items = IsSmall problem (values_of setting (parameter_type setting.table (root_of setting) key) items)

  params_small : AllByRecursion (λ d. IsParameterSmall d.key d.domain) setting.document.params
  params_small =
      each_weaker _ (λ (d : NamedDomain). IsParameterSmall d.key d.domain) setting.document.params
      (λ d none. few_choices (codes "params." ++ d.key) (choices_in problem (values_of setting (parameter_type setting.table (root_of setting) d.key) d.domain)) none) (none_each _ setting.document.params is.params)

  parameter_small : (key : List ℕ) → IsSmall problem (parameter_values setting key)
  parameter_small key = go (given setting.document.params key) refl
    where
      go : (o : Option (List FinItem)) → given setting.document.params key ≡ o → IsParameterSmall key (unwrap_or o [])
      go None e = omega arith
      go (Some items) e = given_holds IsParameterSmall setting.document.params key items params_small e

  pub parameters_small : (mode : Mode) (ps : List Parameter) → AllByRecursion (IsSmall problem) (map (λ p. parameter_values setting (parameter_key mode p)) ps)
  parameters_small mode [] = tt
  parameters_small mode (p ∷ ps) = (parameter_small (parameter_key mode p), parameters_small mode ps)

  -- ---- domains

  spots_small : (k : ℕ) (fs : List Field) → AllByRecursion (λ s. IsSmall problem s.domain) (field_spots setting k fs)
  spots_small k [] = tt
  spots_small k (f ∷ fs) = (given_small (field_key setting.table f), spots_small (k + 1) fs)

  elements_small : (k n : ℕ) (domain : Domain) → IsSmall problem domain → AllByRecursion (λ s. IsSmall problem s.domain) (element_spots k n domain)
  elements_small k zero domain h = tt
  elements_small k (suc n) domain h = (h, elements_small (k + 1) n domain h)

  module _ (few : HasFew setting.document) where
    -- a name that is the class's, or an identifier
    object_line : (hs : List Heading) → AllByRecursion (λ h. IsLine h.name) hs → (c : Count) (k : ℕ) → number_of hs c.class ≡ Some k → IsNamed c → IsLine c.name
    object_line hs lines c k e (inl same) = subst IsLine (sym same) (class_line hs lines 0 hs c.class k lines e)
    object_line hs lines c k e (inr is) = identifier_line c.name is

    object_good : (o : ℕ × Count) → IsLine o.1.name → o.1.count ≤ 64 → IsGood problem (object_domain setting o)
    object_good o name count = record { name = name; count = count; spots = spots_small 0 (fields_of setting.table o.0) }

    few_named : (cs : List Count) → AllByRecursion (λ c. c.count ≤ 64) cs → AllByRecursion IsNamed cs → AllByRecursion (λ c. (c.count ≤ 64) × IsNamed c) cs
    few_named [] h k = tt
    few_named (c ∷ cs) h k = ((h.0, k.0), few_named cs h.1 k.1)

    array_good : (a : JavaType × ArrayBound) → IsLine a.1.name → a.1.count ≤ 64 → IsSmall problem (lengths_of setting a.1.lengths) → IsGood problem (array_class_domain setting a)
    array_good a name count long = record {
      name = name;
      count = count;
      spots = (long, elements_small 0 (greatest (lengths_of setting a.1.lengths)) (field_values setting (elements_key a.1.name)) (given_small (elements_key a.1.name)));
    }

    both_each : (bs : List ArrayBound) → AllByRecursion (λ b. b.count ≤ 64) bs → AllByRecursion (λ b. IsSmall problem (lengths_of setting b.lengths)) bs
        → AllByRecursion (λ b. (b.count ≤ 64) × IsSmall problem (lengths_of setting b.lengths)) bs
    both_each [] h k = tt
    both_each (b ∷ bs) h k = ((h.0, k.0), both_each bs h.1 k.1)

    pub domains_good : AllByRecursion (λ h. IsLine h.name) setting.table.headings → setting.objects ≡ declared setting.table.headings setting.document.objects → setting.arrays ≡ bounded setting.table.headings setting.document.arrays → AllByRecursion (IsGood problem) (domains_of setting)
    domains_good lines objects bounds =
        let own : AllByRecursion (λ o. IsGood problem (object_domain setting o)) (declared setting.table.headings setting.document.objects) =
        of_declared (λ c. (c.count ≤ 64) × IsNamed c) (λ o. IsGood problem (object_domain setting o)) setting.table.headings setting.document.objects
        (λ c k e h. object_good (k, c) (object_line setting.table.headings lines c k e h.1) h.0) (few_named setting.document.objects few.objects few.names) in
        let good : AllByRecursion (λ a. IsGood problem (array_class_domain setting a)) (bounded setting.table.headings setting.document.arrays) =
        of_bounded (λ b. (b.count ≤ 64) × IsSmall problem (lengths_of setting b.lengths)) (λ a. IsGood problem (array_class_domain setting a)) setting.table.headings setting.document.arrays
        (λ b t known h. array_good (t, b) (array_line setting.table.headings lines b.name t known) h.0 h.1) (both_each setting.document.arrays few.arrays lengths_small) in
        each_of_both (IsGood problem) (map (object_domain setting) setting.objects) (map (array_class_domain setting) setting.arrays)
        (each_mapped (IsGood problem) (object_domain setting) setting.objects (subst (λ (all : List (ℕ × Count)). AllByRecursion (λ o. IsGood problem (object_domain setting o)) all) (sym objects) own))
        (each_mapped (IsGood problem) (array_class_domain setting) setting.arrays (subst (λ (all : List (JavaType × ArrayBound)). AllByRecursion (λ a. IsGood problem (array_class_domain setting a)) all) (sym bounds) good))

-- ---- slots

good_at : (problem : Problem) (ds : List ClassDomain) (d : ℕ) → AllByRecursion (IsGood problem) ds → IsGood problem (get_or ds d no_objects)
good_at problem [] d h = record { name = tt; count = omega arith; spots = tt }
good_at problem (x ∷ xs) zero h = h.0
good_at problem (x ∷ xs) (suc d) h = good_at problem xs d h.1

pub slot_small : (problem : Problem) → AllByRecursion (IsSmall problem) problem.parameters → AllByRecursion (IsGood problem) problem.domains → (s : ℕ) → s < length (slots problem) → length (choices_at problem s) < 2 ^ 32
slot_small problem parameters good s h = go (slot_case problem s h)
  where
    go : SlotCase problem s → length (choices_at problem s) < 2 ^ 32
    go (is_this e) =
        let own = good_at problem problem.domains problem.root good in
        subst (λ (n : ℕ). length (choices_at problem n) < 2 ^ 32) (sym e) (omega (arith, own.count, objects_long problem problem.root, length-append (item_choices problem (Objects problem.root)) []))
    go (is_parameter i below e) =
        let slot = (parameter_slot problem i below).1 in
        let small : IsSmall problem (get_or problem.parameters i []) = each_at (IsSmall problem) problem.parameters i [] parameters below in
        let same : length (choices_at problem s) ≡ length (choices_in problem (get_or problem.parameters i [])) =
        ap (λ (n : ℕ). length (choices_at problem n)) e ∙ ap (λ (x : Slot). length (choices_in problem x.domain)) slot in
        omega (arith, small, same)
    go (is_spot d k j a b c e) =
        let own = good_at problem problem.domains d good in
        let slot = (object_slot problem d k j a b c).1 in
        let small : IsSmall problem (spotted_at problem d j).domain = each_at (λ (x : Spotted). IsSmall problem x.domain) (domain_at problem d).spots j no_spot own.spots c in
        let same : length (choices_at problem s) ≡ length (choices_in problem (spotted_at problem d j).domain) =
        ap (λ (n : ℕ). length (choices_at problem n)) e ∙ ap (λ (x : Slot). length (choices_in problem x.domain)) slot in
        omega (arith, small, same)
