-- The domains of a problem that sources and a finitization pose: names mean their classes, and arrays are short.
use Rattle.std.proofs.Common.{◌≡◌, ℕ, zero, suc, ◌<◌, ◌≤◌, ◌⊎◌, inl, inr, Bool, true, false, List, [], ◌∷◌, ◌++◌, length, get_or, map, Option, Some, None, refl, sym, ap, ◌∙◌, arith, subst}
use Rattle.std.specs.Prelude.{All, flat_map, option_map, unwrap_or, nat_lt, bytes_eq, codes, if◌then◌else◌, ◌||◌}
use Rattle.std.specs.List.{AllByRecursion, position_or_len}
use Rattle.std.proofs.lemmas.List.Elements.{recursion_from_All}
use Rattle.kr_ast.specs.Tree.{Tree}
use Rattle.kr_value.specs.declared.object.Class.TheVariants.{Object, Array}
use Rattle.kr_classes_table.specs.Arrays.{array_number, arrays_in, array_types_of, is_listed, once}
use Rattle.kr_classes_table.specs.Table.{Heading, Table, number_of, table_of}
use Rattle.kr_classes_table.specs.Types.{JavaType, BooleanType, VoidType, ClassType, ArrayType, SetType, ListType, int_type, long_type, is_element, is_same}
use Rattle.kr_fin.specs.declared.document.ArrayBound.{ArrayBound}
use Rattle.kr_fin.specs.declared.document.Count.{Count}
use Rattle.kr_fin.specs.declared.document.FinDoc.{FinDoc}
use Rattle.kr_mean.specs.Problem.{ClassDomain, domain_at, no_objects}
use Rattle.kr_mean.specs.declared.mode.Mode.{Mode}
use Rattle.kr_laws_never_stuck.proofs.Values.{lengths_short}
use Rattle.kr_laws_safety.proofs.Heaps.{same_type}
use Rattle.kr_laws_safety.proofs.Vectors.{type_same}
use Rattle.kr_space_meaning.proofs.Each.{each_at, each_of_both, each_weaker}
use Rattle.kr_space_meaning.proofs.Plain.{length-element_spots}
use Rattle.kr_space_meaning.specs.Bounds.{Setting, array_class_domain, bounded, classed, declared, declared_by, domains_of, elements_key, field_values, greatest, lengths_of, object_domain, problem_in, problem_of, setting_of, typed_bound}
use Rattle.kr_space_meaning.specs.Limits.{AreLengths, IsWithinLimits}
use Rattle.kr_space_meaning.specs.Names.{Written, ArrayOf, SetOf, ListOf, Word, array_or_none, array_type, of_elements, type_of, type_within, word_type, written}
use Rattle.kr_laws_never_stuck.proofs.Codes.{listed_back, listed_front}
use Rattle.kr_emit_meaning.specs.Buildable.{element_of}
use Rattle.kr_emit_laws.proofs.Arrays.{listed_once, number_is, type_there}

-- some name means the class
abbrev pub IsNamed : List Heading → ℕ → Type 0
IsNamed hs c = (n : List ℕ) × (number_of hs n ≡ Some c)

-- ---- types by their names

word_class : (hs : List Heading) (text : List ℕ) (c : ℕ) → word_type hs text ≡ Some (ClassType c) → IsNamed hs c
word_class hs text c e = go (bytes_eq text (codes "int")) (bytes_eq text (codes "long")) (bytes_eq text (codes "boolean")) (number_of hs text) refl e
  where
    go : (x y z : Bool) (o : Option ℕ) → number_of hs text ≡ o → (if x then Some int_type else if y then Some long_type else if z then Some BooleanType else option_map ClassType o) ≡ Some (ClassType c) → IsNamed hs c
    go true y z o q e = absurd (cc (e))
    go false true z o q e = absurd (cc (e))
    go false false true o q e = absurd (cc (e))
    go false false false None q e = absurd (cc (e))
    go false false false (Some k) q e = (text, q ∙ cc (e))

no_collection : (collection : JavaType → JavaType) (t : JavaType) → ((u : JavaType) → collection u ≡ t → ⊥) → (o : Option JavaType) → of_elements collection o ≡ Some t → ⊥
no_collection collection t never None e = cc (e)
no_collection collection t never (Some u) e = go (is_element u) e
  where
    go : (b : Bool) → (if b then Some (collection u) else None) ≡ Some t → ⊥
    go true e = never u (cc (e))
    go false e = cc (e)

class_within : (n : ℕ) (hs : List Heading) (text : List ℕ) (c : ℕ) → type_within n hs text ≡ Some (ClassType c) → IsNamed hs c
class_within zero hs text c e = absurd (cc (e))
class_within (suc n) hs text c e = go (written text) e
  where
    go : (w : Written) → type_of hs (type_within n hs) w ≡ Some (ClassType c) → IsNamed hs c
    go (ArrayOf x) e = by (type_within n hs x) e
      where
        by : (o : Option JavaType) → option_map ArrayType o ≡ Some (ClassType c) → IsNamed hs c
        by None e = absurd (cc (e))
        by (Some u) e = absurd (cc (e))
    go (SetOf x) e = absurd (no_collection (λ u. SetType u) (ClassType c) (λ u q. cc (q)) (type_within n hs x) e)
    go (ListOf x) e = absurd (no_collection (λ u. ListType u) (ClassType c) (λ u q. cc (q)) (type_within n hs x) e)
    go (Word x) e = word_class hs x c e

no_word : (hs : List Heading) (text : List ℕ) (u : JavaType) → word_type hs text ≡ Some (ArrayType u) → ⊥
no_word hs text u e = go (bytes_eq text (codes "int")) (bytes_eq text (codes "long")) (bytes_eq text (codes "boolean")) (number_of hs text) e
  where
    go : (x y z : Bool) (o : Option ℕ) → (if x then Some int_type else if y then Some long_type else if z then Some BooleanType else option_map ClassType o) ≡ Some (ArrayType u) → ⊥
    go true y z o e = cc (e)
    go false true z o e = cc (e)
    go false false true o e = cc (e)
    go false false false None e = cc (e)
    go false false false (Some k) e = cc (e)

array_within : (n : ℕ) (hs : List Heading) (text : List ℕ) (c : ℕ) → type_within n hs text ≡ Some (ArrayType (ClassType c)) → IsNamed hs c
array_within zero hs text c e = absurd (cc (e))
array_within (suc n) hs text c e = go (written text) e
  where
    go : (w : Written) → type_of hs (type_within n hs) w ≡ Some (ArrayType (ClassType c)) → IsNamed hs c
    go (ArrayOf x) e = by (type_within n hs x) refl e
      where
        by : (o : Option JavaType) → type_within n hs x ≡ o → option_map ArrayType o ≡ Some (ArrayType (ClassType c)) → IsNamed hs c
        by None q e = absurd (cc (e))
        by (Some u) q e = let same : u ≡ ClassType c = cc (e) in class_within n hs x c (q ∙ ap (λ (t : JavaType). Some t) same)
    go (SetOf x) e = absurd (no_collection (λ u. SetType u) (ArrayType (ClassType c)) (λ u q. cc (q)) (type_within n hs x) e)
    go (ListOf x) e = absurd (no_collection (λ u. ListType u) (ArrayType (ClassType c)) (λ u q. cc (q)) (type_within n hs x) e)
    go (Word x) e = absurd (no_word hs x (ClassType c) e)

array_only : (o : Option JavaType) (t : JavaType) → array_or_none o ≡ Some t → (o ≡ Some t) × ((u : JavaType) × (t ≡ ArrayType u))
array_only (Some (ArrayType u)) t e = let same : ArrayType u ≡ t = cc (e) in (e, (u, sym same))
array_only (Some _) t e = absurd (cc (e))
array_only None t e = absurd (cc (e))

is_array : (hs : List Heading) (name : List ℕ) (t : JavaType) → array_type hs name ≡ Some t → (type_within (length name) hs name ≡ Some t) × ((u : JavaType) × (t ≡ ArrayType u))
unfolding array_type
is_array hs name t e = array_only (type_within (length name) hs name) t e

-- ---- object domains

declared_named : (hs : List Heading) (counts : List Count) → AllByRecursion (λ (o : ℕ × Count). IsNamed hs o.0) (declared hs counts)
declared_named hs [] = tt
declared_named hs (c ∷ cs) = each_of_both (λ (o : ℕ × Count). IsNamed hs o.0) (declared_by hs c) (declared hs cs) (go (nat_lt 0 c.count)) (declared_named hs cs)
  where
    by : (o : Option ℕ) → number_of hs c.class ≡ o → AllByRecursion (λ (o : ℕ × Count). IsNamed hs o.0) (classed o c)
    by None e = tt
    by (Some k) e = ((c.class, e), tt)

    go : (b : Bool) → AllByRecursion (λ (o : ℕ × Count). IsNamed hs o.0) (if b then classed (number_of hs c.class) c else [])
    go true = by (number_of hs c.class) refl
    go false = tt

-- ---- array types

record IsBound (setting : Setting) (a : JavaType × ArrayBound) : Type 0 where
  named : array_type setting.table.headings a.1.name ≡ Some a.0
  number : get_or setting.types (unwrap_or (array_number setting.types a.0) 0) VoidType ≡ a.0
  short : greatest (lengths_of setting a.1.lengths) ≤ 64

record IsListed (hs : List Heading) (setting : Setting) (a : JavaType × ArrayBound) : Type 0 where
  named : array_type hs a.1.name ≡ Some a.0
  short : greatest (lengths_of setting a.1.lengths) ≤ 64

bounds_named : (hs : List Heading) (setting : Setting) (bounds : List ArrayBound) → AllByRecursion (λ (b : ArrayBound). All AreLengths b.lengths) bounds → AllByRecursion (IsListed hs setting) (bounded hs bounds)
bounds_named hs setting [] h = tt
bounds_named hs setting (b ∷ bs) h = each_of_both (IsListed hs setting) (typed_bound (array_type hs b.name) b) (bounded hs bs) (one (array_type hs b.name) refl) (bounds_named hs setting bs h.1)
  where
    one : (o : Option JavaType) → array_type hs b.name ≡ o → AllByRecursion (IsListed hs setting) (typed_bound o b)
    one None e = tt
    one (Some t) e = (record { named = e; short = lengths_short setting b.lengths (recursion_from_All AreLengths b.lengths h.0) }, tt)

self_listed : (hs : List Heading) (name : List ℕ) (t : JavaType) → array_type hs name ≡ Some t → is_listed t (arrays_in t) ≡ true
self_listed hs name t e =
    let u = (is_array hs name t e).1 in
    subst (λ (t : JavaType). is_listed t (arrays_in t) ≡ true) (sym u.1)
    (listed_back (ArrayType u.0) (arrays_in u.0) (ArrayType u.0 ∷ []) (ap (λ (b : Bool). b || false) (type_same (ArrayType u.0))))

all_listed : (hs : List Heading) (setting : Setting) (bounds : List (JavaType × ArrayBound)) → AllByRecursion (IsListed hs setting) bounds → AllByRecursion (λ (a : JavaType × ArrayBound). IsListed hs setting a × (is_listed a.0 (flat_map (λ (b : JavaType × ArrayBound). arrays_in b.0) bounds) ≡ true)) bounds
all_listed hs setting [] h = tt
all_listed hs setting (a ∷ more) h =
    let rest : List JavaType = flat_map (λ (b : JavaType × ArrayBound). arrays_in b.0) more in (
      (h.0, listed_front a.0 (arrays_in a.0) rest (self_listed hs a.1.name a.0 h.0.named)),
      each_weaker (λ (b : JavaType × ArrayBound). IsListed hs setting b × (is_listed b.0 rest ≡ true)) (λ (b : JavaType × ArrayBound). IsListed hs setting b × (is_listed b.0 (arrays_in a.0 ++ rest) ≡ true)) more
          (λ b l. (l.0, listed_back b.0 (arrays_in a.0) rest l.1)) (all_listed hs setting more h.1),
    )

numbered_at : (types : List JavaType) (t : JavaType) → is_listed t types ≡ true → get_or types (unwrap_or (array_number types t) 0) VoidType ≡ t
numbered_at types t h =
    ap (λ (o : Option ℕ). get_or types (unwrap_or o 0) VoidType) (number_is types t h)
    ∙ same_type (get_or types (position_or_len (λ u. is_same u t) types) VoidType) t (type_there types t h)

module _ (files : List Tree) (document : FinDoc) (limits : IsWithinLimits document) where
  bounds : AllByRecursion (IsBound (setting_of files document)) (setting_of files document).arrays
  unfolding setting_of
  bounds =
      let setting : Setting = setting_of files document in
      let hs : List Heading = (table_of files).headings in
      let mine : List JavaType = flat_map (λ (a : JavaType × ArrayBound). arrays_in a.0) setting.arrays in
      each_weaker (λ (a : JavaType × ArrayBound). IsListed hs setting a × (is_listed a.0 mine ≡ true)) (IsBound setting) setting.arrays
      (λ a l. record { named = l.0.named; number = numbered_at setting.types a.0 (only a.0 (listed_once a.0 [] (array_types_of files ++ mine) (listed_back a.0 (array_types_of files) mine l.1))); short = l.0.short })
      (all_listed hs setting setting.arrays (bounds_named hs setting document.arrays (recursion_from_All (λ (b : ArrayBound). All AreLengths b.lengths) document.arrays limits.lengths)))
    where
      only : (t : JavaType) → (is_listed t [] ≡ true) ⊎ (is_listed t (once [] (array_types_of files ++ flat_map (λ (a : JavaType × ArrayBound). arrays_in a.0) (bounded (table_of files).headings document.arrays))) ≡ true)
          → is_listed t (once [] (array_types_of files ++ flat_map (λ (a : JavaType × ArrayBound). arrays_in a.0) (bounded (table_of files).headings document.arrays))) ≡ true
      only t (inl e) = absurd (cc (e))
      only t (inr e) = e

  objects : AllByRecursion (λ (o : ℕ × Count). IsNamed (table_of files).headings o.0) (setting_of files document).objects
  unfolding setting_of
  objects = declared_named (table_of files).headings document.objects

  table_is : (setting_of files document).table ≡ table_of files
  unfolding setting_of
  table_is = refl

  -- what is known of a domain
  pub record IsSound (types : List JavaType) (dom : ClassDomain) : Type 0 where
    pub objects : (c : ℕ) → dom.class ≡ Object c → IsNamed (table_of files).headings c
    pub short : (k : ℕ) → dom.class ≡ Array k → length dom.spots ≤ 65
    pub elements : (k c : ℕ) → dom.class ≡ Array k → element_of (get_or types k VoidType) ≡ ClassType c → IsNamed (table_of files).headings c

  objects_sound : (setting : Setting) (os : List (ℕ × Count)) → AllByRecursion (λ (o : ℕ × Count). IsNamed (table_of files).headings o.0) os → AllByRecursion (IsSound setting.types) (map (object_domain setting) os)
  objects_sound setting [] h = tt
  objects_sound setting (o ∷ os) h = (
    record {
      objects = λ c e. let same : o.0 ≡ c = cc (e) in subst (IsNamed (table_of files).headings) same h.0;
      short = λ k e. absurd (cc (e));
      elements = λ k c e. absurd (cc (e));
    },
    objects_sound setting os h.1,
  )

  arrays_sound : (setting : Setting) → setting.table ≡ table_of files → (bs : List (JavaType × ArrayBound)) → AllByRecursion (IsBound setting) bs → AllByRecursion (IsSound setting.types) (map (array_class_domain setting) bs)
  arrays_sound setting t [] h = tt
  arrays_sound setting t (a ∷ more) h = (
    record {
      objects = λ c e. absurd (cc (e));
      short = λ k e. omega (arith, length-element_spots 0 (greatest (lengths_of setting a.1.lengths)) (field_values setting (elements_key a.1.name)), h.0.short);
      elements = λ k c e q.
          let number : unwrap_or (array_number setting.types a.0) 0 ≡ k = cc (e) in
          let type : get_or setting.types k VoidType ≡ a.0 = ap (λ (i : ℕ). get_or setting.types i VoidType) (sym number) ∙ h.0.number in
          let u = is_array setting.table.headings a.1.name a.0 h.0.named in
          let element : u.1.0 ≡ ClassType c = sym (ap element_of (type ∙ u.1.1)) ∙ q in
          let whole : type_within (length a.1.name) setting.table.headings a.1.name ≡ Some (ArrayType (ClassType c)) = u.0 ∙ ap (λ (t : JavaType). Some t) (u.1.1 ∙ ap (λ (t : JavaType). ArrayType t) element) in
          subst (λ (x : Table). IsNamed x.headings c) t (array_within (length a.1.name) setting.table.headings a.1.name c whole);
    },
    arrays_sound setting t more h.1,
  )

  all_sound : AllByRecursion (IsSound (setting_of files document).types) (domains_of (setting_of files document))
  all_sound =
      let setting : Setting = setting_of files document in
      each_of_both (IsSound setting.types) (map (object_domain setting) setting.objects) (map (array_class_domain setting) setting.arrays) (objects_sound setting setting.objects objects) (arrays_sound setting table_is setting.arrays bounds)

  pub domains_sound : (mode : Mode) (d : ℕ) → d < length (problem_of files document mode).domains → IsSound (problem_of files document mode).program.arrays (domain_at (problem_of files document mode) d)
  unfolding problem_in
  domains_sound mode d l = each_at (IsSound (setting_of files document).types) (domains_of (setting_of files document)) d no_objects all_sound l
