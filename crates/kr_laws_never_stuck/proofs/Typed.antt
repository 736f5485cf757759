-- Each slot's domain has values of the slot's type.
use Rattle.std.proofs.Common.{◌≡◌, ℕ, zero, suc, ◌+◌, ◌<◌, Bool, true, false, not, ◌&&◌, ◌||◌, ◌==◌, nat_lt, List, [], ◌∷◌, ◌++◌, length, map, get_or, Option, Some, None, refl, sym, ap, ◌∙◌, subst, inl, inr, ◌⊎◌, arith}
use Rattle.std.specs.Prelude.{flat_map, bytes_eq, codes, find, unwrap_or, option_map, option_and_then, All, if◌then◌else◌}
use Rattle.std.specs.List.{AllByRecursion}
use Rattle.std.proofs.Common.{length-append}
use Rattle.std.proofs.lemmas.Bool.Decides.{nat_tests}
use Rattle.std.proofs.lemmas.List.{get_or_at, append_assoc, length-map}
use Rattle.std.proofs.lemmas.List.Elements.{recursion_from_All}
use Rattle.std.proofs.lemmas.Bool.{not-false, or_left}
use Rattle.kr_ast.specs.Tree.{Tree}
use Rattle.kr_classes_table.specs.Types.{JavaType, VoidType, ArrayType, is_same}
use Rattle.kr_classes_table.specs.Table.{Heading, Table, Field, Parameter, Method, table_of, fields_of, method_named, number_of}
use Rattle.kr_classes_table.specs.Arrays.{array_types_of, arrays_in, is_listed, once, array_number_from, array_number}
use Rattle.kr_value.specs.declared.object.Class.TheVariants.{Object}
use Rattle.kr_mean.specs.declared.mode.Mode.{Mode}
use Rattle.kr_mean.specs.declared.mode.Mode.TheVariants.{List as Listing, Method as Testing}
use Rattle.kr_mean.specs.Purity.{IsOneOf}
use Rattle.kr_mean.specs.Problem.{Problem, ClassDomain, Domain, no_objects, domain_at, slots}
use Rattle.kr_mean.specs.Runs.{class_number, root_class, tested_method}
use Rattle.kr_fin.specs.declared.document.FinDoc.{FinDoc}
use Rattle.kr_fin.specs.declared.document.Count.{Count}
use Rattle.kr_fin.specs.declared.document.ArrayBound.{ArrayBound}
use Rattle.kr_fin.specs.declared.document.NamedDomain.{NamedDomain}
use Rattle.kr_fin.specs.declared.document.Item.{Item as FinItem}
use Rattle.kr_fin.specs.Shapes.{is_pair}
use Rattle.kr_space_meaning.specs.Names.{array_or_none, array_type, type_within}
use Rattle.kr_space_meaning.specs.Bounds.{Setting, setting_of, bounded, typed_bound, class_name, field_values, parameter_values, field_key, field_spots, object_domain, object_number, element_spots, elements_key, array_spots, array_class_domain, lengths_of, greatest, domains_of, root_domain, root_number, root_of, tested_parameters, parameter_key, problem_in, program_in, problem_of}
use Rattle.kr_space_meaning.specs.Keys.{owner_part, element_of, instance_alone, instance_type, own_field_type, field_type, method_at, parameter_type, parameters_of}
use Rattle.kr_space_meaning.specs.Faults.{is_instance, is_predicate, is_unfit, fields_unfit, params_unfit, numbers_of, numbers_of_lengths, S1, S2, S3_S5_S6, S4, S7, S8, S9, faults_in}
use Rattle.kr_space_meaning.specs.declared.refusal.SpaceRule.TheVariants.{EmptyDomain, TooMany}
use Rattle.kr_space_meaning.specs.Order.{break_if}
use Rattle.kr_space_meaning.specs.Limits.{IsSmall, AreLengths, IsWithinLimits}
use Rattle.kr_space_meaning.proofs.Each.{unbroken, none_each, each_of_both, each_weaker, each_at}
use Rattle.kr_space_meaning.proofs.Plain.{length-element_spots}
use Rattle.kr_laws_safety.specs.Domains as types
use Rattle.kr_laws_safety.specs.Domains.{class_type, IsDomainOf, AreDomainsOf, AreAllDomainsOf, AreElementsOf, AreSpotsOf, HaveDomainsTypes}
use Rattle.kr_laws_safety.proofs.Heaps.{same_type}
use Rattle.kr_laws_safety.proofs.Vectors.{type_same}
use Rattle.kr_laws_never_stuck.specs.Keys.{IsKeyed, HasKeys, HasPairs}
use Rattle.kr_laws_never_stuck.specs.DomainTypes.{DomainTypesLaw}
use Rattle.kr_laws_never_stuck.proofs.Codes.{listed_back, listed_front, listed_once}
use Rattle.kr_laws_never_stuck.proofs.Pairs.{IsApart, apart, dotted}
use Rattle.kr_space_meaning.proofs.Given.{given_holds}
use Rattle.kr_laws_never_stuck.proofs.Values.{lengths_short, AreArrays, HasDomains, given_of}
use Rattle.kr_space.proofs.Laid.{document_is}
use Rattle.kr_base.proofs.ListLemmas.{append_is_nil}

-- ---- lists

each_both : {X : Type 0} (P Q : X → Type 0) (xs : List X) → AllByRecursion P xs → AllByRecursion Q xs → AllByRecursion (λ x. P x × Q x) xs
each_both P Q [] h k = tt
each_both P Q (x ∷ xs) h k = ((h.0, k.0), each_both P Q xs h.1 k.1)

by_recursion : {X : Type 0} (P : X → Type 0) (xs : List X) → All P xs → AllByRecursion P xs
by_recursion P xs h = recursion_from_All P xs h

-- ---- numbers of array types

-- a listed type has a number, and is at it
record IsNumbered (k : ℕ) (t : JavaType) (xs : List JavaType) : Type 0 where
  number : ℕ
  at : ℕ
  found : array_number_from k xs t ≡ Some number
  behind : number ≡ k + at
  is : get_or xs at VoidType ≡ t

numbered : (k : ℕ) (t : JavaType) (xs : List JavaType) → is_listed t xs ≡ true → IsNumbered k t xs
numbered k t [] h = absurd (cc (h))
numbered k t (x ∷ xs) h = go (is_same t x) refl h (numbered (k + 1) t xs)
  where
    found : (b : Bool) → is_same t x ≡ b → (o : Option ℕ) → (if b then Some k else array_number_from (k + 1) xs t) ≡ o → array_number_from k (x ∷ xs) t ≡ o
    found b e o f = ap (λ (c : Bool). if c then Some k else array_number_from (k + 1) xs t) e ∙ f

    go : (b : Bool) → is_same t x ≡ b → (b || is_listed t xs) ≡ true → (is_listed t xs ≡ true → IsNumbered (k + 1) t xs) → IsNumbered k t (x ∷ xs)
    go true e h r = record { number = k; at = 0; found = found true e (Some k) refl; behind = omega arith; is = sym (same_type t x e) }
    go false e h r = let n = r h in record { number = n.number; at = suc n.at; found = found false e (Some n.number) n.found; behind = omega (arith, n.behind); is = n.is }

-- ---- bounds

-- an array type that the document bounds
record IsBound (setting : Setting) (a : JavaType × ArrayBound) : Type 0 where
  element : JavaType
  array : a.0 ≡ ArrayType element
  named : array_type setting.table.headings a.1.name ≡ Some a.0
  number : get_or setting.types (unwrap_or (array_number setting.types a.0) 0) VoidType ≡ a.0
  lengths : AllByRecursion AreLengths a.1.lengths

-- before the types have numbers
record IsNamed (hs : List Heading) (a : JavaType × ArrayBound) : Type 0 where
  element : JavaType
  array : a.0 ≡ ArrayType element
  named : array_type hs a.1.name ≡ Some a.0
  lengths : AllByRecursion AreLengths a.1.lengths

array_only : (o : Option JavaType) (t : JavaType) → array_or_none o ≡ Some t → (u : JavaType) × (t ≡ ArrayType u)
array_only (Some (ArrayType u)) t e = (u, sym (ap (λ (o : Option JavaType). unwrap_or o t) e))
array_only (Some _) t e = absurd (cc (e))
array_only None t e = absurd (cc (e))

is_array : (hs : List Heading) (n : List ℕ) (t : JavaType) → array_type hs n ≡ Some t → (u : JavaType) × (t ≡ ArrayType u)
unfolding array_type
is_array hs n t e = array_only (type_within (length n) hs n) t e

bounds_named : (hs : List Heading) (bounds : List ArrayBound) → AllByRecursion (λ b. AllByRecursion AreLengths b.lengths) bounds → AllByRecursion (IsNamed hs) (bounded hs bounds)
bounds_named hs [] h = tt
bounds_named hs (b ∷ bs) h = each_of_both (IsNamed hs) (typed_bound (array_type hs b.name) b) (bounded hs bs) (one (array_type hs b.name) refl) (bounds_named hs bs h.1)
  where
    one : (o : Option JavaType) → array_type hs b.name ≡ o → AllByRecursion (IsNamed hs) (typed_bound o b)
    one None e = tt
    one (Some t) e = let u = is_array hs b.name t e in (record { element = u.0; array = u.1; named = e; lengths = h.0 }, tt)

-- the array types that the document bounds are among those of the problem's program
all_listed : (hs : List Heading) (bounds : List (JavaType × ArrayBound)) → AllByRecursion (IsNamed hs) bounds → AllByRecursion (λ a. is_listed a.0 (flat_map (λ b. arrays_in b.0) bounds) ≡ true) bounds
all_listed hs [] h = tt
all_listed hs (a ∷ more) h = (
  listed_front a.0 (arrays_in a.0) (flat_map (λ b. arrays_in b.0) more)
      (subst (λ (t : JavaType). is_listed t (arrays_in t) ≡ true) (sym h.0.array)
      (listed_back (ArrayType h.0.element) (arrays_in h.0.element) (ArrayType h.0.element ∷ []) (or_left (is_same (ArrayType h.0.element) (ArrayType h.0.element)) false (type_same (ArrayType h.0.element))))),
  each_weaker (λ b. is_listed b.0 (flat_map (λ c. arrays_in c.0) more) ≡ true) (λ b. is_listed b.0 (arrays_in a.0 ++ flat_map (λ c. arrays_in c.0) more) ≡ true) more
      (λ b l. listed_back b.0 (arrays_in a.0) (flat_map (λ c. arrays_in c.0) more) l) (all_listed hs more h.1),
)

-- ---- the whole

abbrev pub posed : Setting → Mode → Problem
posed setting mode = record {
  program = program_in setting;
  root = root_domain setting;
  mode = mode;
  parameters = map (λ p. parameter_values setting (parameter_key mode p)) (tested_parameters setting mode);
  fuel = setting.document.fuel;
  domains = domains_of setting;
}

-- what is known of a domain that is given for a key
abbrev IsFieldDomain : Table → FinDoc → List ℕ → List FinItem → Type 0
IsFieldDomain table document key items = (is_pair key ≡ true) × (is_unfit table document (field_type table key) items ≡ false) × AllByRecursion IsSmall items

abbrev IsParameterDomain : Table → FinDoc → Option ℕ → List ℕ → List FinItem → Type 0
IsParameterDomain table document root key items = (is_pair key ≡ true) × (is_unfit table document (parameter_type table root key) items ≡ false) × AllByRecursion IsSmall items

-- what a setting has where no rule is broken
pub record IsSet (setting : Setting) : Type 0 where
  keys : HasKeys setting.table
  root : ℕ
  rooted : root_of setting ≡ Some root
  number : ℕ
  numbered : object_number 0 setting.objects setting.document.root root ≡ Some number
  bounds : AllByRecursion (IsBound setting) setting.arrays
  fields : AllByRecursion (λ d. IsFieldDomain setting.table setting.document d.key d.domain) setting.document.fields
  params : AllByRecursion (λ d. IsParameterDomain setting.table setting.document (root_of setting) d.key d.domain) setting.document.params

number_same : (m n : ℕ) → (m == n) ≡ true → m ≡ n
number_same m n e = grind (arith, nat_tests)

and_parts : (a b : Bool) → (a && b) ≡ true → (a ≡ true) × (b ≡ true)
and_parts true b e = (refl, e)
and_parts false b e = absurd (cc (e))

-- the root's domain, where it has one of its class
pub root_domain_is : (setting : Setting) (c d : ℕ) → root_of setting ≡ Some c → object_number 0 setting.objects setting.document.root c ≡ Some d → root_domain setting ≡ d
unfolding root_domain
root_domain_is setting c d e n =
    ap (λ (o : Option ℕ). unwrap_or (root_number setting o) (length (domains_of setting))) e
    ∙ ap (λ (o : Option ℕ). unwrap_or o (length (domains_of setting))) n

past_all : (ds : List ClassDomain) → (get_or ds (length ds) no_objects).count ≡ 0
past_all [] = refl
past_all (d ∷ ds) = past_all ds

-- a root of a class that has objects has a domain of its class
pub root_numbered : (setting : Setting) (c : ℕ) → root_of setting ≡ Some c → ((get_or (domains_of setting) (root_domain setting) no_objects).count == 0) ≡ false → (d : ℕ) × (object_number 0 setting.objects setting.document.root c ≡ Some d)
unfolding root_domain
root_numbered setting c e some = go (object_number 0 setting.objects setting.document.root c) refl
  where
    true_not_false : true ≡ false → ⊥
    true_not_false e = absurd (cc (e))

    at : (o : Option ℕ) → object_number 0 setting.objects setting.document.root c ≡ o → unwrap_or (root_number setting (root_of setting)) (length (domains_of setting)) ≡ unwrap_or o (length (domains_of setting))
    at o q = ap (λ (r : Option ℕ). unwrap_or (root_number setting r) (length (domains_of setting))) e ∙ ap (λ (r : Option ℕ). unwrap_or r (length (domains_of setting))) q

    go : (o : Option ℕ) → object_number 0 setting.objects setting.document.root c ≡ o → (d : ℕ) × (object_number 0 setting.objects setting.document.root c ≡ Some d)
    go (Some d) q = (d, q)
    go None q =
        let none : (get_or (domains_of setting) (unwrap_or (root_number setting (root_of setting)) (length (domains_of setting))) no_objects).count ≡ 0 =
        ap (λ (n : ℕ). (get_or (domains_of setting) n no_objects).count) (at None q) ∙ past_all (domains_of setting) in
        absurd (true_not_false (ap (λ (n : ℕ). n == 0) (sym none) ∙ some))

-- the object domain of a name and a class
record IsThere (setting : Setting) (os : List (ℕ × Count)) (rest : List ClassDomain) (k d c : ℕ) : Type 0 where
  at : ℕ
  behind : d ≡ k + at
  below : at < length (map (object_domain setting) os ++ rest)
  class : (get_or (map (object_domain setting) os ++ rest) at no_objects).class ≡ Object c

object_there : (setting : Setting) (k : ℕ) (os : List (ℕ × Count)) (rest : List ClassDomain) (name : List ℕ) (c d : ℕ) → object_number k os name c ≡ Some d → IsThere setting os rest k d c
object_there setting k [] rest name c d e = absurd (cc (e))
object_there setting k (o ∷ os) rest name c d e = go (bytes_eq o.1.name name && (o.0 == c)) refl e (object_there setting (k + 1) os rest name c d)
  where
    go : (b : Bool) → (bytes_eq o.1.name name && (o.0 == c)) ≡ b → (if b then Some k else object_number (k + 1) os name c) ≡ Some d → (object_number (k + 1) os name c ≡ Some d → IsThere setting os rest (k + 1) d c) → IsThere setting (o ∷ os) rest k d c
    go true q e r = record {
      at = 0;
      behind = (let same : k ≡ d = cc (e) in omega (arith, same));
      below = omega arith;
      class = ap Object (number_same o.0 c (and_parts (bytes_eq o.1.name name) (o.0 == c) q).1);
    }
    go false q e r = let t = r e in record { at = suc t.at; behind = (let b = t.behind in omega (arith, b)); below = (let b = t.below in omega (arith, b)); class = t.class }

object_below : (setting : Setting) (name : List ℕ) (c d : ℕ) → object_number 0 setting.objects name c ≡ Some d → d < length (domains_of setting)
object_below setting name c d e =
    let t = object_there setting 0 setting.objects (map (array_class_domain setting) setting.arrays) name c d e in
    let z : t.at ≡ d = (let b = t.behind in omega (arith, b)) in
    subst (λ (n : ℕ). n < length (domains_of setting)) z t.below

pub object_class : (setting : Setting) (name : List ℕ) (c d : ℕ) → object_number 0 setting.objects name c ≡ Some d → (get_or (domains_of setting) d no_objects).class ≡ Object c
object_class setting name c d e =
    let t = object_there setting 0 setting.objects (map (array_class_domain setting) setting.arrays) name c d e in
    let z : t.at ≡ d = (let b = t.behind in omega (arith, b)) in
    subst (λ (n : ℕ). (get_or (domains_of setting) n no_objects).class ≡ Object c) z t.class

module _ (setting : Setting) (mode : Mode) (set : IsSet setting) where
  abbrev P : Problem
  P = posed setting mode

  -- ---- domains by number

  arrays_there : (d : ℕ) (front : List ClassDomain) (bounds : List (JavaType × ArrayBound)) → length front ≡ d → P.domains ≡ front ++ map (array_class_domain setting) bounds → AllByRecursion (IsBound setting) bounds → AreArrays P d bounds
  arrays_there d front [] l e h = tt
  arrays_there d front (a ∷ more) l e h =
      let mine = array_class_domain setting a in
      let rest = map (array_class_domain setting) more in
      let all : P.domains ≡ (front ++ mine ∷ []) ++ rest = e ∙ sym (append_assoc front (mine ∷ []) rest) in
      let there : domain_at P d ≡ mine = ap (λ (ds : List ClassDomain). get_or ds d no_objects) e ∙ get_or_at front mine rest no_objects d l in (
        (omega (arith, ap length e, length-append front (mine ∷ rest), l), ap (λ (x : ClassDomain). class_type P.program x.class) there ∙ h.0.number),
        arrays_there (d + 1) (front ++ mine ∷ []) more (omega (arith, length-append front (mine ∷ []), l)) all h.1,
      )

  has : HasDomains P setting
  has = record {
    table = refl;
    objects = λ name c d e. (object_below setting name c d e, ap (class_type P.program) (object_class setting name c d e));
    arrays = arrays_there (length setting.objects) (map (object_domain setting) setting.objects) setting.arrays (length-map setting.objects (object_domain setting)) refl set.bounds;
  }

  -- ---- fields

  type_of_key : (key owner name : List ℕ) (o : Option JavaType) → IsApart key owner name → (if bytes_eq name (codes "*") then element_of (array_type setting.table.headings owner) else own_field_type setting.table name (number_of setting.table.headings owner)) ≡ o → field_type setting.table key ≡ o
  type_of_key key owner name o a e =
      ap (λ (n : List ℕ). if bytes_eq n (codes "*") then element_of (array_type setting.table.headings (owner_part key)) else own_field_type setting.table n (number_of setting.table.headings (owner_part key))) a.name_is
      ∙ (ap (λ (w : List ℕ). if bytes_eq name (codes "*") then element_of (array_type setting.table.headings w) else own_field_type setting.table name (number_of setting.table.headings w)) a.owner_is ∙ e)

  field_type_is : (f : Field) → IsKeyed setting.table f → IsApart (field_key setting.table f) (class_name setting.table f.class) f.name → field_type setting.table (field_key setting.table f) ≡ Some f.type
  field_type_is f k a = type_of_key (field_key setting.table f) (class_name setting.table f.class) f.name (Some f.type) a
      (ap (λ (b : Bool). if b then element_of (array_type setting.table.headings (class_name setting.table f.class)) else own_field_type setting.table f.name (number_of setting.table.headings (class_name setting.table f.class))) k.no_elements
      ∙ (ap (own_field_type setting.table f.name) k.class
      ∙ (ap (option_and_then instance_type) k.found ∙ ap (λ (b : Bool). if b then None else Some f.type) k.instance)))

  -- the domain given for a key of `fields` of a type
  given_typed : (key : List ℕ) (t : JavaType) → (is_pair key ≡ true → field_type setting.table key ≡ Some t) → IsDomainOf P t (field_values setting key)
  given_typed key t h = given_of P setting has (field_type setting.table) setting.document.fields key t (λ items e.
      let d : IsFieldDomain setting.table setting.document key items = given_holds (IsFieldDomain setting.table setting.document) setting.document.fields key items set.fields e in
      (h d.0, d.1, d.2))

  field_typed : (f : Field) → IsKeyed setting.table f → IsDomainOf P f.type (field_values setting (field_key setting.table f))
  field_typed f k = given_typed (field_key setting.table f) f.type (λ p.
      let same = dotted (class_name setting.table f.class) f.name in
      field_type_is f k (subst (λ (key : List ℕ). IsApart key (class_name setting.table f.class) f.name) (sym same) (apart (class_name setting.table f.class) f.name (ap is_pair (sym same) ∙ p))))

  fields_typed : (k : ℕ) (fs : List Field) → ((f : Field) → IsOneOf f fs → IsKeyed setting.table f) → AreDomainsOf P (map (λ f. f.type) fs) (types.domains_of (field_spots setting k fs))
  fields_typed k [] h = tt
  fields_typed k (f ∷ fs) h = (field_typed f (h f (inl refl)), fields_typed (k + 1) fs (λ g i. h g (inr i)))

  Spots : ClassDomain → Type 0
  Spots d = AreSpotsOf P d.class d.spots

  objects_typed : (os : List (ℕ × Count)) → AllByRecursion Spots (map (object_domain setting) os)
  unfolding Spots
  objects_typed [] = tt
  objects_typed (o ∷ os) = (fields_typed 0 (fields_of setting.table o.0) (λ f i. set.keys.fields o.0 f i), objects_typed os)

  -- ---- arrays

  all_elements : (t : JavaType) (k n : ℕ) (domain : Domain) → IsDomainOf P t domain → AreAllDomainsOf P t (element_spots k n domain)
  all_elements t k zero domain h = tt
  all_elements t k (suc n) domain h = (h, all_elements t (k + 1) n domain h)

  elements_typed : (a : JavaType × ArrayBound) → (b : IsBound setting a) → IsDomainOf P b.element (field_values setting (elements_key a.1.name))
  elements_typed a b = given_typed (elements_key a.1.name) b.element (λ p.
      type_of_key (elements_key a.1.name) a.1.name (42 ∷ []) (Some b.element) (apart a.1.name (42 ∷ []) p)
      (ap element_of b.named ∙ ap (λ (t : JavaType). element_of (Some t)) b.array))

  array_typed : (a : JavaType × ArrayBound) → IsBound setting a → Spots (array_class_domain setting a)
  unfolding Spots
  array_typed a b =
      let n = greatest (lengths_of setting a.1.lengths) in
      let elements = field_values setting (elements_key a.1.name) in
      subst (λ (t : JavaType). AreElementsOf P t (array_spots (lengths_of setting a.1.lengths) elements)) (sym (b.number ∙ b.array))
      (all_elements b.element 0 n elements (elements_typed a b), omega (arith, length-element_spots 0 n elements, lengths_short setting a.1.lengths b.lengths))

  arrays_typed : (bounds : List (JavaType × ArrayBound)) → AllByRecursion (IsBound setting) bounds → AllByRecursion Spots (map (array_class_domain setting) bounds)
  arrays_typed [] h = tt
  arrays_typed (a ∷ more) h = (array_typed a h.0, arrays_typed more h.1)

  spots_typed : (d : ℕ) → d < length P.domains → AreSpotsOf P (domain_at P d).class (domain_at P d).spots
  unfolding Spots
  spots_typed d l = each_at Spots P.domains d no_objects (each_of_both Spots (map (object_domain setting) setting.objects) (map (array_class_domain setting) setting.arrays) (objects_typed setting.objects) (arrays_typed setting.arrays set.bounds)) l

  -- ---- the root and the method under test

  root_there : (domain_at P P.root).class ≡ Object set.root
  root_there =
      ap (λ (n : ℕ). (domain_at P n).class) (root_domain_is setting set.root set.number set.rooted set.numbered)
      ∙ object_class setting setting.document.root set.root set.number set.numbered

  root_is : root_class P ≡ set.root
  root_is = ap class_number root_there

  tested_is : (name : List ℕ) → method_at setting.table (root_of setting) name ≡ method_named setting.table (root_class P) name
  tested_is name = ap (λ (o : Option ℕ). method_at setting.table o name) set.rooted ∙ ap (λ (c : ℕ). method_named setting.table c name) (sym root_is)

  parameter_typed : (name : List ℕ) (m : Method) (p : Parameter) → method_named setting.table (root_class P) name ≡ Some m → IsOneOf p m.parameters → IsDomainOf P p.type (parameter_values setting (name ++ codes "." ++ p.name))
  parameter_typed name m p q i =
      let key = name ++ codes "." ++ p.name in
      let same = dotted name p.name in
      given_of P setting has (parameter_type setting.table (root_of setting)) setting.document.params key p.type (λ items e.
      let d : IsParameterDomain setting.table setting.document (root_of setting) key items = given_holds (IsParameterDomain setting.table setting.document (root_of setting)) setting.document.params key items set.params e in
      let a = subst (λ (k : List ℕ). IsApart k name p.name) (sym same) (apart name p.name (ap is_pair (sym same) ∙ d.0)) in
      let found : parameter_type setting.table (root_of setting) key ≡ Some p.type =
      ap (λ (n : List ℕ). option_map (λ p. p.type) (find (λ q. bytes_eq q.name n) (parameters_of (method_at setting.table (root_of setting) (owner_part key))))) a.name_is
      ∙ (ap (λ (n : List ℕ). option_map (λ p. p.type) (find (λ q. bytes_eq q.name p.name) (parameters_of (method_at setting.table (root_of setting) n)))) a.owner_is
      ∙ (ap (λ (o : Option Method). option_map (λ p. p.type) (find (λ q. bytes_eq q.name p.name) (parameters_of o))) (tested_is name ∙ q)
      ∙ ap (option_map (λ p. p.type)) (set.keys.parameters (root_class P) name m p q i))) in
      (found, d.1, d.2))

  all_parameters : (ps : List Parameter) (key : Parameter → List ℕ) → ((p : Parameter) → IsOneOf p ps → IsDomainOf P p.type (parameter_values setting (key p))) → AreDomainsOf P (map (λ p. p.type) ps) (map (λ p. parameter_values setting (key p)) ps)
  all_parameters [] key h = tt
  all_parameters (p ∷ ps) key h = (h p (inl refl), all_parameters ps key (λ q i. h q (inr i)))

-- the method under test is one that objects have
alone : (m : Method) → is_instance (Some m) ≡ true → instance_alone (Some m) ≡ Some m
alone m h = go m.is_static h
  where
    go : (b : Bool) → not b ≡ true → (if b then None else Some m) ≡ Some m
    go false h = refl
    go true h = absurd (cc (h))

instance_rule : (setting : Setting) (name : List ℕ) → S8 setting (Testing name) ≡ [] → is_instance (method_at setting.table (root_of setting) name) ≡ true
instance_rule setting name e = not-false (is_instance (method_at setting.table (root_of setting) name)) (unbroken _ _ (codes "method") e)

module _ (setting : Setting) where
  parameters_typed : (mode : Mode) (set : IsSet setting) (instance : S8 setting mode ≡ []) (m : Method) → tested_method (posed setting mode) mode ≡ Some m → AreDomainsOf (posed setting mode) (map (λ p. p.type) m.parameters) (posed setting mode).parameters
  parameters_typed Listing set instance m e = absurd (cc (e))
  parameters_typed (Testing name) set instance m e =
      let found = tested_is setting (Testing name) set name ∙ e in
      let one = alone m (subst (λ (o : Option Method). is_instance o ≡ true) found (instance_rule setting name instance)) in
      let problem = posed setting (Testing name) in
      subst (λ (o : Option Method). AreDomainsOf problem (map (λ p. p.type) m.parameters) (map (λ p. parameter_values setting (name ++ codes "." ++ p.name)) (parameters_of o)))
      (sym (ap instance_alone found ∙ one))
      (all_parameters setting (Testing name) set m.parameters (λ p. name ++ codes "." ++ p.name) (λ p i. parameter_typed setting (Testing name) set name m p e i))

  no_parameters : (mode : Mode) (set : IsSet setting) → tested_method (posed setting mode) mode ≡ None → (posed setting mode).parameters ≡ []
  no_parameters Listing set e = refl
  no_parameters (Testing name) set e =
      ap (λ (o : Option Method). map (λ p. parameter_values setting (name ++ codes "." ++ p.name)) (parameters_of (instance_alone o))) (tested_is setting (Testing name) set name ∙ e)

  typed : (mode : Mode) → IsSet setting → S8 setting mode ≡ [] → HaveDomainsTypes (posed setting mode)
  typed mode set instance = record {
    spots = spots_typed setting mode set;
    parameters = parameters_typed mode set instance;
    none = no_parameters mode set;
    root = root_there setting mode set ∙ ap Object (sym (root_is setting mode set));
  }

-- ---- from the rules

all_small : (domains : List NamedDomain) → All (λ d. All IsSmall d.domain) domains → AllByRecursion (λ d. AllByRecursion IsSmall d.domain) domains
all_small domains h = each_weaker (λ d. All IsSmall d.domain) (λ d. AllByRecursion IsSmall d.domain) domains (λ d k. by_recursion IsSmall d.domain k) (by_recursion (λ d. All IsSmall d.domain) domains h)

pub record Rules (problem : Problem) (setting : Setting) (mode : Mode) : Type 0 where
  pub some : ((domain_at problem problem.root).count == 0) ≡ false
  pub fields : fields_unfit setting.table setting.document setting.document.fields ≡ []
  pub params : params_unfit setting.table setting.document (root_of setting) setting.document.params ≡ []
  pub predicate : is_predicate (method_at setting.table (root_of setting) (codes "repOk")) ≡ true
  pub instance : S8 setting mode ≡ []

-- the objects of the root
root_some : (problem : Problem) (setting : Setting) → S3_S5_S6 problem setting ≡ [] → ((domain_at problem problem.root).count == 0) ≡ false
root_some problem setting e =
    let fields = numbers_of problem setting (field_type setting.table) (codes "fields.") setting.document.fields in
    let params = numbers_of problem setting (parameter_type setting.table (root_of setting)) (codes "params.") setting.document.params in
    let lengths = numbers_of_lengths problem setting setting.document.arrays in
    let this = break_if ((domain_at problem problem.root).count == 0) EmptyDomain (codes "this") in
    let many = break_if (nat_lt 4096 (length (slots problem))) TooMany (codes "slots") in
    let first = (append_is_nil fields (params ++ (lengths ++ (this ++ many))) e).1 in
    let second = (append_is_nil params (lengths ++ (this ++ many)) first).1 in
    let third = (append_is_nil lengths (this ++ many) second).1 in
    unbroken ((domain_at problem problem.root).count == 0) EmptyDomain (codes "this") (append_is_nil this many third).0

pub rules_of : (problem : Problem) (setting : Setting) (mode : Mode) → faults_in problem setting mode ≡ [] → Rules problem setting mode
unfolding faults_in
rules_of problem setting mode e =
    let first = append_is_nil (S1 setting) (S2 setting mode ++ (S3_S5_S6 problem setting ++ (S4 setting ++ (S7 setting ++ (S8 setting mode ++ S9 setting))))) e in
    let second = append_is_nil (S2 setting mode) (S3_S5_S6 problem setting ++ (S4 setting ++ (S7 setting ++ (S8 setting mode ++ S9 setting)))) first.1 in
    let third = append_is_nil (S3_S5_S6 problem setting) (S4 setting ++ (S7 setting ++ (S8 setting mode ++ S9 setting))) second.1 in
    let fourth = append_is_nil (S4 setting) (S7 setting ++ (S8 setting mode ++ S9 setting)) third.1 in
    let four = append_is_nil (fields_unfit setting.table setting.document setting.document.fields) (params_unfit setting.table setting.document (root_of setting) setting.document.params) fourth.0 in
    let fifth = append_is_nil (S7 setting) (S8 setting mode ++ S9 setting) fourth.1 in
    record {
      some = root_some problem setting third.0;
      fields = four.0;
      params = four.1;
      predicate = not-false (is_predicate (method_at setting.table (root_of setting) (codes "repOk"))) (unbroken _ _ (codes "root") fifth.0);
      instance = (append_is_nil (S8 setting mode) (S9 setting) fifth.1).0;
    }

-- what has a predicate has a class
pub rooted_by : (setting : Setting) → is_predicate (method_at setting.table (root_of setting) (codes "repOk")) ≡ true → (c : ℕ) × (root_of setting ≡ Some c)
rooted_by setting e = some_of (root_of setting) e
  where
    some_of : (o : Option ℕ) → is_predicate (method_at setting.table o (codes "repOk")) ≡ true → (c : ℕ) × (o ≡ Some c)
    some_of (Some c) e = (c, refl)
    some_of None e = absurd (cc (e))

set_of : (problem : Problem) (setting : Setting) (mode : Mode) → ((get_or (domains_of setting) (root_domain setting) no_objects).count == 0) ≡ false → AllByRecursion (IsBound setting) setting.arrays → HasKeys setting.table → HasPairs setting.document → IsWithinLimits setting.document → Rules problem setting mode → IsSet setting
set_of problem setting mode some bounds keys pairs limits rules =
    let root = rooted_by setting rules.predicate in
    let number = root_numbered setting root.0 root.1 some in
    let small = all_small setting.document.fields limits.fields in
    let small_params = all_small setting.document.params limits.params in
    let fit = each_weaker _ (λ d. is_unfit setting.table setting.document (field_type setting.table d.key) d.domain ≡ false) setting.document.fields (λ d e. unbroken _ _ _ e) (none_each _ setting.document.fields rules.fields) in
    let fit_params = each_weaker _ (λ d. is_unfit setting.table setting.document (parameter_type setting.table (root_of setting) d.key) d.domain ≡ false) setting.document.params (λ d e. unbroken _ _ _ e) (none_each _ setting.document.params rules.params) in
    record {
      keys = keys;
      root = root.0;
      rooted = root.1;
      number = number.0;
      numbered = number.1;
      bounds = bounds;
      fields = each_weaker _ (λ d. IsFieldDomain setting.table setting.document d.key d.domain) setting.document.fields (λ d h. (h.0, h.1.0, h.1.1))
          (each_both _ _ setting.document.fields pairs.fields (each_both _ _ setting.document.fields fit small));
      params = each_weaker _ (λ d. IsParameterDomain setting.table setting.document (root_of setting) d.key d.domain) setting.document.params (λ d h. (h.0, h.1.0, h.1.1))
          (each_both _ _ setting.document.params pairs.params (each_both _ _ setting.document.params fit_params small_params));
    }

bounds_of : (files : List Tree) (document : FinDoc) → IsWithinLimits document → AllByRecursion (IsBound (setting_of files document)) (setting_of files document).arrays
unfolding setting_of
bounds_of files document limits =
    let hs = (table_of files).headings in
    let arrays = bounded hs document.arrays in
    let setting = setting_of files document in
    let lengths = each_weaker (λ b. All AreLengths b.lengths) (λ b. AllByRecursion AreLengths b.lengths) document.arrays (λ b h. by_recursion AreLengths b.lengths h) (by_recursion (λ b. All AreLengths b.lengths) document.arrays limits.lengths) in
    let named = bounds_named hs document.arrays lengths in
    let mine = flat_map (λ a. arrays_in a.0) arrays in
    let bound : (a : JavaType × ArrayBound) → IsNamed hs a × (is_listed a.0 mine ≡ true) → IsBound setting a = λ a h.
    let n = numbered 0 a.0 setting.types (only a.0 (listed_once a.0 [] (array_types_of files ++ mine) (listed_back a.0 (array_types_of files) mine h.1))) in
    let z : n.number ≡ n.at = omega (arith, n.behind) in
    record {
      element = h.0.element;
      array = h.0.array;
      named = h.0.named;
      number = ap (λ (o : Option ℕ). get_or setting.types (unwrap_or o 0) VoidType) n.found ∙ (ap (λ (k : ℕ). get_or setting.types k VoidType) z ∙ n.is);
      lengths = h.0.lengths;
    } in
    each_weaker (λ a. IsNamed hs a × (is_listed a.0 mine ≡ true)) (IsBound setting) arrays bound (each_both (IsNamed hs) (λ a. is_listed a.0 mine ≡ true) arrays named (all_listed hs arrays named))
  where
    only : (t : JavaType) → (is_listed t (once [] (array_types_of files ++ flat_map (λ a. arrays_in a.0) (bounded (table_of files).headings document.arrays))) ≡ true) ⊎ (false ≡ true) → is_listed t (setting_of files document).types ≡ true
    only t (inl e) = e
    only t (inr e) = absurd (cc (e))

pub is_posed : (setting : Setting) (mode : Mode) → problem_in (program_in setting) setting mode ≡ posed setting mode
unfolding problem_in
is_posed setting mode = refl

-- the parts of a setting
table_is : (files : List Tree) (document : FinDoc) → (setting_of files document).table ≡ table_of files
unfolding setting_of
table_is files document = refl

pub domains_typed : DomainTypesLaw
domains_typed files document mode keys pairs limits e =
    let setting = setting_of files document in
    let here = document_is files document in
    let problem = problem_of files document mode in
    let rules = rules_of problem setting mode e in
    let some = subst (λ (p : Problem). ((domain_at p p.root).count == 0) ≡ false) (is_posed setting mode) rules.some in
    let set = set_of problem setting mode some (bounds_of files document limits) (subst HasKeys (sym (table_is files document)) keys) (subst HasPairs (sym here) pairs) (subst IsWithinLimits (sym here) limits) rules in
    subst HaveDomainsTypes (sym (is_posed setting mode)) (typed setting mode set rules.instance)
