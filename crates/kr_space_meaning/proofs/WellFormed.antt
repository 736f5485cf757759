-- A document that breaks no rule gives a well formed problem.
use Rattle.std.proofs.Common.{◌≡◌, ℕ, zero, suc, ◌+◌, ◌<◌, ◌≤◌, Bool, true, false, cond, ◌&&◌, ◌==◌, nat_lt, List, [], ◌∷◌, ◌++◌, length, map, get_or, Option, Some, None, refl, sym, ap, subst, arith}
use Rattle.std.specs.Prelude.{flat_map, is_none, unwrap_or, codes}
use Rattle.std.specs.List.{AllByRecursion}
use Rattle.std.proofs.lemmas.Bool.{le-leb}
use Rattle.kr_ast.specs.Tree.{Tree}
use Rattle.kr_classes_table.specs.Types.{JavaType}
use Rattle.kr_classes_table.specs.Numbers.{Bits32}
use Rattle.kr_classes_table.specs.Table.{Heading, Field, fields_of}
use Rattle.kr_mean.specs.declared.mode.Mode.{Mode}
use Rattle.kr_mean.specs.Problem.{Problem, ClassDomain, Domain, DomainObject, slots, no_slot, choices_in, domain_at, Choice, no_objects, objects_of_domain, objects_from, all_objects, parameter_slots, slots_of_object, object_choice, Objects, upto}
use Rattle.kr_mean.specs.Program.{Program}
use Rattle.kr_mean.specs.WellFormed.{IsWellFormed, ArePlain, AreSpots}
use Rattle.kr_fin.specs.declared.document.FinDoc.{FinDoc}
use Rattle.kr_fin.specs.declared.document.Count.{Count}
use Rattle.kr_fin.specs.declared.document.NamedDomain.{NamedDomain}
use Rattle.kr_fin.specs.declared.document.ArrayBound.{ArrayBound}
use Rattle.kr_fin.specs.declared.document.Item.{Item as FinItem}
use Rattle.kr_space_meaning.specs.Names.{array_type}
use Rattle.kr_space_meaning.specs.Keys.{field_type, parameter_type}
use Rattle.kr_space_meaning.specs.Bounds.{Setting, setting_of, bounded, typed_bound, problem_in, program_in, root_of, given, values_of, values_with, lengths_of, values_given, field_values, parameter_values, field_spots, field_key, object_domain, array_class_domain, element_spots, elements_key, greatest, domains_of, tested_parameters, parameter_key}
use Rattle.kr_space_meaning.specs.Faults.{S1, S2, S3_S5_S6, number_faults, numbers_of, numbers_of_lengths, faults_in, object_S2, array_S2, parameter_S2, no_domain}
use Rattle.kr_space_meaning.specs.declared.refusal.SpaceRule.TheVariants.{EmptyDomain, TooMany}
use Rattle.kr_space_meaning.specs.Order.{Fault, break_if}
use Rattle.kr_space_meaning.specs.Laws.{WellFormedLaw}
use Rattle.kr_space_meaning.proofs.Each.{unbroken, none_each, each_of_both, each_mapped, each_flat, each_weaker, each_always, each_at, each_number}
use Rattle.kr_space_meaning.proofs.Given.{given_holds}
use Rattle.kr_space_meaning.proofs.Plain.{plain_given, plain_lengths, lengths_upto, length-element_spots, elements_in_order, fields_in_order}
use Rattle.kr_base.proofs.ListLemmas.{append_is_nil}

-- ---- the root

-- a domain with objects is one of all
counted_below : (ds : List ClassDomain) (d : ℕ) → ((get_or ds d no_objects).count == 0) ≡ false → d < length ds
counted_below [] d e = absurd (cc (e))
counted_below (x ∷ xs) zero e = omega arith
counted_below (x ∷ xs) (suc d) e = let below = counted_below xs d e in omega (arith, below)

-- ---- domains that have values

abbrev Filled : Problem → Domain → Type 0
Filled problem domain = 0 < length (choices_in problem domain)

not_zero : {X : Type 0} (xs : List X) → (length xs == 0) ≡ false → 0 < length xs
not_zero [] e = absurd (cc (e))
not_zero (x ∷ xs) e = omega arith

-- a list of given domains, whose keys require types
abbrev AllFilled : Problem → Setting → (List ℕ → Option JavaType) → List NamedDomain → Type 0
AllFilled problem setting asked domains = AllByRecursion (λ d. Filled problem (values_of setting (asked d.key) d.domain)) domains

given_filled : (problem : Problem) (setting : Setting) (asked : List ℕ → Option JavaType) (domains : List NamedDomain) (key : List ℕ) → AllFilled problem setting asked domains
    → is_none (given domains key) ≡ false → Filled problem (values_given setting asked domains key)
given_filled problem setting asked domains key h some = go (given domains key) refl some
  where
    go : (o : Option (List FinItem)) → given domains key ≡ o → is_none o ≡ false → Filled problem (values_of setting (asked key) (unwrap_or o []))
    go None e absent = absurd (cc (absent))
    go (Some items) e there = given_holds (λ k is. Filled problem (values_of setting (asked k) is)) domains key items h e

-- the types that the keys of `fields` and of `params` require
abbrev field_asked : Setting → List ℕ → Option JavaType
field_asked setting key = field_type setting.table key

abbrev parameter_asked : Setting → List ℕ → Option JavaType
parameter_asked setting key = parameter_type setting.table (root_of setting) key

record AreFilled (problem : Problem) (setting : Setting) : Type 0 where
  fields : AllFilled problem setting (field_asked setting) setting.document.fields
  params : AllFilled problem setting (parameter_asked setting) setting.document.params
  lengths : AllByRecursion (λ b. Filled problem (lengths_of setting b.lengths)) setting.document.arrays

-- the choices are some
some : (item : List ℕ) (choices : List Choice) → number_faults item choices ≡ [] → 0 < length choices
some item choices e = not_zero choices (unbroken _ _ item (append_is_nil _ _ e).0)

table_filled : (problem : Problem) (setting : Setting) (asked : List ℕ → Option JavaType) (table : List ℕ) (domains : List NamedDomain) → numbers_of problem setting asked table domains ≡ [] → AllFilled problem setting asked domains
table_filled problem setting asked table domains e =
    each_weaker _ (λ (d : NamedDomain). Filled problem (values_of setting (asked d.key) d.domain)) domains (λ d none. some (table ++ d.key) (choices_in problem (values_of setting (asked d.key) d.domain)) none) (none_each _ domains e)

lengths_filled : (problem : Problem) (setting : Setting) (bounds : List ArrayBound) → numbers_of_lengths problem setting bounds ≡ [] → AllByRecursion (λ b. Filled problem (lengths_of setting b.lengths)) bounds
lengths_filled problem setting bounds e =
    each_weaker _ (λ (b : ArrayBound). Filled problem (lengths_of setting b.lengths)) bounds (λ b none. some (codes "arrays." ++ b.name) (choices_in problem (lengths_of setting b.lengths)) none) (none_each _ bounds e)

-- the parts of the rules on numbers
record AreNumbered (problem : Problem) (setting : Setting) : Type 0 where
  fields : numbers_of problem setting (field_asked setting) (codes "fields.") setting.document.fields ≡ []
  params : numbers_of problem setting (parameter_asked setting) (codes "params.") setting.document.params ≡ []
  lengths : numbers_of_lengths problem setting setting.document.arrays ≡ []
  root : ((domain_at problem problem.root).count == 0) ≡ false

parts : (fields params lengths : List Fault) (none : Bool) (slots : List Fault) → fields ++ (params ++ (lengths ++ (break_if none EmptyDomain (codes "this") ++ slots))) ≡ []
    → (fields ≡ []) × (params ≡ []) × (lengths ≡ []) × (none ≡ false)
parts fields params lengths none slots e =
    let first = append_is_nil fields (params ++ (lengths ++ (break_if none EmptyDomain (codes "this") ++ slots))) e in
    let second = append_is_nil params (lengths ++ (break_if none EmptyDomain (codes "this") ++ slots)) first.1 in
    let third = append_is_nil lengths (break_if none EmptyDomain (codes "this") ++ slots) second.1 in
    (first.0, second.0, third.0, unbroken none EmptyDomain (codes "this") (append_is_nil (break_if none EmptyDomain (codes "this")) slots third.1).0)

numbered : (problem : Problem) (setting : Setting) → S3_S5_S6 problem setting ≡ [] → AreNumbered problem setting
numbered problem setting e =
    let p = parts (numbers_of problem setting (field_asked setting) (codes "fields.") setting.document.fields) (numbers_of problem setting (parameter_asked setting) (codes "params.") setting.document.params) (numbers_of_lengths problem setting setting.document.arrays)
    ((domain_at problem problem.root).count == 0) (break_if (nat_lt 4096 (length (slots problem))) TooMany (codes "slots")) e in
    record { fields = p.0; params = p.1; lengths = p.2; root = p.3 }

all_filled : (problem : Problem) (setting : Setting) → S3_S5_S6 problem setting ≡ [] → AreFilled problem setting
all_filled problem setting e =
    let n = numbered problem setting e in
    record {
      fields = table_filled problem setting (field_asked setting) (codes "fields.") setting.document.fields n.fields;
      params = table_filled problem setting (parameter_asked setting) (codes "params.") setting.document.params n.params;
      lengths = lengths_filled problem setting setting.document.arrays n.lengths;
    }

-- ---- the class domains

-- the domains of a class domain's spots, where it has objects
abbrev SpotsHave : (Domain → Type 0) → ClassDomain → Type 0
SpotsHave P domain = 0 < domain.count → AllByRecursion (λ s. P s.domain) domain.spots

fields_filled : (problem : Problem) (setting : Setting) → AllFilled problem setting (field_asked setting) setting.document.fields → (k : ℕ) (fs : List Field)
    → AllByRecursion (λ f. no_domain (codes "fields.") setting.document.fields (field_key setting.table f) ≡ []) fs → AllByRecursion (λ s. Filled problem s.domain) (field_spots setting k fs)
fields_filled problem setting filled k [] h = tt
fields_filled problem setting filled k (f ∷ fs) h =
    (given_filled problem setting (field_asked setting) setting.document.fields (field_key setting.table f) filled (unbroken _ _ _ h.0), fields_filled problem setting filled (k + 1) fs h.1)

some_objects : (n : ℕ) → 0 < n → nat_lt 0 n ≡ true
some_objects n h = le-leb 1 n h

object_filled : (problem : Problem) (setting : Setting) → AllFilled problem setting (field_asked setting) setting.document.fields → (o : ℕ × Count) → object_S2 setting o ≡ []
    → SpotsHave (Filled problem) (object_domain setting o)
object_filled problem setting filled o e some = fields_filled problem setting filled 0 (fields_of setting.table o.0) (none_each _ (fields_of setting.table o.0) e)

objects_filled : (problem : Problem) (setting : Setting) → AllFilled problem setting (field_asked setting) setting.document.fields → (os : List (ℕ × Count)) → flat_map (object_S2 setting) os ≡ []
    → AllByRecursion (SpotsHave (Filled problem)) (map (object_domain setting) os)
objects_filled problem setting filled os e =
    each_mapped (SpotsHave (Filled problem)) (object_domain setting) os
    (each_weaker (λ o. object_S2 setting o ≡ []) (λ o. SpotsHave (Filled problem) (object_domain setting o)) os (λ o none. object_filled problem setting filled o none) (none_each (object_S2 setting) os e))

all_elements : (P : Domain → Type 0) (k n : ℕ) (domain : Domain) → P domain → AllByRecursion (λ s. P s.domain) (element_spots k n domain)
all_elements P k zero domain p = tt
all_elements P k (suc n) domain p = (p, all_elements P (k + 1) n domain p)

array_filled : (problem : Problem) (setting : Setting) → AllFilled problem setting (field_asked setting) setting.document.fields → (a : JavaType × ArrayBound) → array_S2 setting a ≡ []
    → Filled problem (lengths_of setting a.1.lengths) → SpotsHave (Filled problem) (array_class_domain setting a)
array_filled problem setting filled a e long some = (long, elements (greatest (lengths_of setting a.1.lengths)) refl)
  where
    elements : (n : ℕ) → greatest (lengths_of setting a.1.lengths) ≡ n → AllByRecursion (λ s. Filled problem s.domain) (element_spots 0 n (field_values setting (elements_key a.1.name)))
    elements zero is = tt
    elements (suc n) is =
        let asked : (nat_lt 0 a.1.count && nat_lt 0 (greatest (lengths_of setting a.1.lengths))) ≡ true = rw (some_objects a.1.count some, is) (some_objects (suc n) (omega arith)) in
        let none = subst (λ (b : Bool). cond b (no_domain (codes "fields.") setting.document.fields (elements_key a.1.name)) [] ≡ []) asked e in
        all_elements (Filled problem) 0 (suc n) (field_values setting (elements_key a.1.name))
        (given_filled problem setting (field_asked setting) setting.document.fields (elements_key a.1.name) filled (unbroken _ _ _ none))

arrays_filled : (problem : Problem) (setting : Setting) → AllFilled problem setting (field_asked setting) setting.document.fields → (bounds : List (JavaType × ArrayBound))
    → AllByRecursion (λ a. array_S2 setting a ≡ []) bounds → AllByRecursion (λ a. Filled problem (lengths_of setting a.1.lengths)) bounds
    → AllByRecursion (SpotsHave (Filled problem)) (map (array_class_domain setting) bounds)
arrays_filled problem setting filled [] none long = tt
arrays_filled problem setting filled (a ∷ more) none long = (array_filled problem setting filled a none.0 long.0, arrays_filled problem setting filled more none.1 long.1)

-- a property of each bound is one of those whose array type is known
of_bounded : (P : ArrayBound → Type 0) (hs : List Heading) (bounds : List ArrayBound) → AllByRecursion P bounds → AllByRecursion (λ a. P a.1) (bounded hs bounds)
of_bounded P hs [] h = tt
of_bounded P hs (b ∷ bs) h = each_of_both (λ a. P a.1) (typed_bound (array_type hs b.name) b) (bounded hs bs) (one (array_type hs b.name)) (of_bounded P hs bs h.1)
  where
    one : (o : Option JavaType) → AllByRecursion (λ a. P a.1) (typed_bound o b)
    one None = tt
    one (Some t) = (h.0, tt)

-- ---- plain values and spots

fields_plain : (setting : Setting) (k : ℕ) (fs : List Field) → AllByRecursion (λ s. ArePlain s.domain) (field_spots setting k fs)
fields_plain setting k [] = tt
fields_plain setting k (f ∷ fs) =
    (plain_given setting (field_asked setting) setting.document.fields (field_key setting.table f), fields_plain setting (k + 1) fs)

objects_plain : (setting : Setting) (os : List (ℕ × Count)) → AllByRecursion (SpotsHave ArePlain) (map (object_domain setting) os)
objects_plain setting [] = tt
objects_plain setting (o ∷ os) = ((λ some. fields_plain setting 0 (fields_of setting.table o.0)), objects_plain setting os)

array_plain : (setting : Setting) (a : JavaType × ArrayBound) → SpotsHave ArePlain (array_class_domain setting a)
array_plain setting a some = (
  plain_lengths (values_with setting Bits32 a.1.lengths),
  all_elements ArePlain 0 (greatest (lengths_of setting a.1.lengths)) (field_values setting (elements_key a.1.name))
      (plain_given setting (field_asked setting) setting.document.fields (elements_key a.1.name)),
)

objects_spotted : (setting : Setting) (os : List (ℕ × Count)) → AllByRecursion (λ d. AreSpots d.class d.spots) (map (object_domain setting) os)
objects_spotted setting [] = tt
objects_spotted setting (o ∷ os) = (fields_in_order setting 0 (fields_of setting.table o.0), objects_spotted setting os)

array_spotted : (setting : Setting) (a : JavaType × ArrayBound) → AreSpots (array_class_domain setting a).class (array_class_domain setting a).spots
array_spotted setting a =
    let lengths = lengths_of setting a.1.lengths in
    let elements = field_values setting (elements_key a.1.name) in
    let long : greatest lengths ≤ length (element_spots 0 (greatest lengths) elements) = omega (arith, length-element_spots 0 (greatest lengths) elements) in
    (refl, elements_in_order 0 (greatest lengths) elements, lengths_upto (length (element_spots 0 (greatest lengths) elements)) (values_with setting Bits32 a.1.lengths) long)

-- ---- slots

objects_all : (Q : DomainObject → Type 0) (d : ℕ) (ds : List ClassDomain)
    → ((k : ℕ) → k < length ds → 0 < (get_or ds k no_objects).count → (n : ℕ) → Q (record { domain = d + k; number = n })) → AllByRecursion Q (objects_from d ds)
objects_all Q d [] h = tt
objects_all Q d (x ∷ xs) h =
    each_of_both Q (objects_of_domain d x) (objects_from (d + 1) xs)
    (each_mapped Q (λ k. record { domain = d; number = k }) (upto x.count)
    (each_number (λ k. Q (record { domain = d; number = k })) 0 x.count
    (λ some n. subst (λ (i : ℕ). Q (record { domain = i; number = n })) (let at : d + 0 ≡ d = omega arith in at) (h 0 (omega arith) some n))))
    (objects_all Q (d + 1) xs
    (λ k below some n. subst (λ (i : ℕ). Q (record { domain = i; number = n })) (let at : d + suc k ≡ (d + 1) + k = omega arith in at) (h (suc k) (omega arith) some n)))

parameters_all : (P : Domain → Type 0) (i : ℕ) (ds : List Domain) → AllByRecursion P ds → AllByRecursion (λ s. P s.domain) (parameter_slots i ds)
parameters_all P i [] h = tt
parameters_all P i (d ∷ ds) h = (h.0, parameters_all P (i + 1) ds h.1)

-- a property of the domains of the root, of the parameters and of the spots of classes with objects is one of each slot's
slots_all : (P : Domain → Type 0) (problem : Problem) → P (Objects problem.root ∷ []) → AllByRecursion P problem.parameters
    → AllByRecursion (SpotsHave P) problem.domains → AllByRecursion (λ s. P s.domain) (slots problem)
slots_all P problem root parameters domains = (
  root,
  each_of_both (λ s. P s.domain) _ _ (parameters_all P 0 problem.parameters parameters)
      (each_flat (λ s. P s.domain) (slots_of_object problem) (all_objects problem)
      (objects_all (λ o. AllByRecursion (λ s. P s.domain) (slots_of_object problem o)) 0 problem.domains
      (λ k below some n. subst (λ (i : ℕ). AllByRecursion (λ s. P s.domain) (slots_of_object problem (record { domain = i; number = n }))) (let at : k ≡ 0 + k = omega arith in at)
      (each_mapped (λ s. P s.domain) _ (domain_at problem k).spots (each_at (SpotsHave P) problem.domains k no_objects domains below some))))),
)

some_choices : (problem : Problem) (d n : ℕ) → (n == 0) ≡ false → 0 < length (map (object_choice problem) (map (λ k. record { domain = d; number = k }) (upto n)) ++ [])
some_choices problem d zero e = absurd (cc (e))
some_choices problem d (suc n) e = omega arith

-- ---- the whole

-- the two rules that a well formed problem rests on
record Rules (problem : Problem) (setting : Setting) (mode : Mode) : Type 0 where
  given_all : S2 setting mode ≡ []
  filled_all : S3_S5_S6 problem setting ≡ []

rules_of : (problem : Problem) (setting : Setting) (mode : Mode) → faults_in problem setting mode ≡ [] → Rules problem setting mode
unfolding faults_in
rules_of problem setting mode e =
    let first = append_is_nil (S1 setting) _ e in
    let second = append_is_nil (S2 setting mode) _ first.1 in
    record { given_all = second.0; filled_all = (append_is_nil (S3_S5_S6 problem setting) _ second.1).0 }

domains_filled : (problem : Problem) (setting : Setting) (mode : Mode) → setting.arrays ≡ bounded setting.table.headings setting.document.arrays
    → Rules problem setting mode → AllByRecursion (SpotsHave (Filled problem)) (domains_of setting)
domains_filled problem setting mode bounds rules =
    let filled = all_filled problem setting rules.filled_all in
    let parts = append_is_nil (flat_map (object_S2 setting) setting.objects) _ rules.given_all in
    let arrays = append_is_nil (flat_map (array_S2 setting) setting.arrays) _ parts.1 in
    let lengths = subst (λ (all : List (JavaType × ArrayBound)). AllByRecursion (λ a. Filled problem (lengths_of setting a.1.lengths)) all) (sym bounds)
    (of_bounded (λ b. Filled problem (lengths_of setting b.lengths)) setting.table.headings setting.document.arrays filled.lengths) in
    each_of_both (SpotsHave (Filled problem)) (map (object_domain setting) setting.objects) (map (array_class_domain setting) setting.arrays)
    (objects_filled problem setting filled.fields setting.objects parts.0)
    (arrays_filled problem setting filled.fields setting.arrays (none_each (array_S2 setting) setting.arrays arrays.0) lengths)

parameters_filled : (problem : Problem) (setting : Setting) (mode : Mode) → Rules problem setting mode
    → AllByRecursion (λ p. Filled problem (parameter_values setting (parameter_key mode p))) (tested_parameters setting mode)
parameters_filled problem setting mode rules =
    let filled = all_filled problem setting rules.filled_all in
    let parts = append_is_nil (flat_map (object_S2 setting) setting.objects) _ rules.given_all in
    let arrays = append_is_nil (flat_map (array_S2 setting) setting.arrays) _ parts.1 in
    each_weaker (λ p. parameter_S2 setting mode p ≡ []) (λ p. Filled problem (parameter_values setting (parameter_key mode p))) (tested_parameters setting mode)
    (λ p none. given_filled problem setting (parameter_asked setting) setting.document.params (parameter_key mode p) filled.params (unbroken _ _ _ none))
    (none_each (parameter_S2 setting mode) (tested_parameters setting mode) arrays.1)

domains_plain : (setting : Setting) → AllByRecursion (SpotsHave ArePlain) (domains_of setting)
domains_plain setting = each_of_both (SpotsHave ArePlain) (map (object_domain setting) setting.objects) (map (array_class_domain setting) setting.arrays)
    (objects_plain setting setting.objects)
    (each_mapped (SpotsHave ArePlain) (array_class_domain setting) setting.arrays (each_always (λ a. SpotsHave ArePlain (array_class_domain setting a)) setting.arrays (array_plain setting)))

domains_spotted : (setting : Setting) → AllByRecursion (λ d. AreSpots d.class d.spots) (domains_of setting)
domains_spotted setting = each_of_both (λ d. AreSpots d.class d.spots) (map (object_domain setting) setting.objects) (map (array_class_domain setting) setting.arrays)
    (objects_spotted setting setting.objects)
    (each_mapped (λ d. AreSpots d.class d.spots) (array_class_domain setting) setting.arrays (each_always (λ a. AreSpots (array_class_domain setting a).class (array_class_domain setting a).spots) setting.arrays (array_spotted setting)))

-- a problem whose parts are those of the setting
record IsOf (problem : Problem) (setting : Setting) (mode : Mode) : Type 0 where
  parameters : problem.parameters ≡ map (λ p. parameter_values setting (parameter_key mode p)) (tested_parameters setting mode)
  domains : problem.domains ≡ domains_of setting

well_formed_of : (problem : Problem) (setting : Setting) (mode : Mode) → setting.arrays ≡ bounded setting.table.headings setting.document.arrays → IsOf problem setting mode → Rules problem setting mode → IsWellFormed problem
well_formed_of problem setting mode bounds is rules =
    let some_root = (numbered problem setting rules.filled_all).root in
    let root_filled : Filled problem (Objects problem.root ∷ []) = some_choices problem problem.root (domain_at problem problem.root).count some_root in
    let params_filled = subst (λ (ds : List Domain). AllByRecursion (Filled problem) ds) (sym is.parameters)
    (each_mapped (Filled problem) (λ p. parameter_values setting (parameter_key mode p)) (tested_parameters setting mode) (parameters_filled problem setting mode rules)) in
    let params_plain = subst (λ (ds : List Domain). AllByRecursion ArePlain ds) (sym is.parameters)
    (each_mapped ArePlain (λ p. parameter_values setting (parameter_key mode p)) (tested_parameters setting mode)
    (each_always (λ p. ArePlain (parameter_values setting (parameter_key mode p))) (tested_parameters setting mode) (λ p. plain_given setting (parameter_asked setting) setting.document.params (parameter_key mode p)))) in
    let spots_filled = subst (λ (ds : List ClassDomain). AllByRecursion (SpotsHave (Filled problem)) ds) (sym is.domains) (domains_filled problem setting mode bounds rules) in
    let spots_plain = subst (λ (ds : List ClassDomain). AllByRecursion (SpotsHave ArePlain) ds) (sym is.domains) (domains_plain setting) in
    let spotted = subst (λ (ds : List ClassDomain). AllByRecursion (λ d. AreSpots d.class d.spots) ds) (sym is.domains) (domains_spotted setting) in
    record {
      root = counted_below problem.domains problem.root some_root;
      filled = λ s below. each_at (λ slot. Filled problem slot.domain) (slots problem) s no_slot (slots_all (Filled problem) problem root_filled params_filled spots_filled) below;
      plain = λ s below. each_at (λ slot. ArePlain slot.domain) (slots problem) s no_slot (slots_all ArePlain problem tt params_plain spots_plain) below;
      spots = λ d below. each_at (λ domain. AreSpots domain.class domain.spots) problem.domains d no_objects spotted below;
    }

is_of : (program : Program) (setting : Setting) (mode : Mode) → IsOf (problem_in program setting mode) setting mode
unfolding problem_in
is_of program setting mode = record { parameters = refl; domains = refl }

bounds_of : (files : List Tree) (document : FinDoc) → (setting_of files document).arrays ≡ bounded (setting_of files document).table.headings (setting_of files document).document.arrays
unfolding setting_of
bounds_of files document = refl

pub well_formed : WellFormedLaw
well_formed files document mode e =
    let setting = setting_of files document in
    well_formed_of (problem_in (program_in (setting_of files document)) setting mode) setting mode (bounds_of files document) (is_of (program_in (setting_of files document)) setting mode)
    (rules_of (problem_in (program_in (setting_of files document)) setting mode) setting mode e)
