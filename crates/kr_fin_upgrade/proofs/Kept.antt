-- A document of version 2 breaks no rule that one of version 1 keeps, whose names stand for the same.
use Rattle.std.proofs.Common.{◌≡◌, ℕ, Bool, true, false, not, ◌&&◌, ◌||◌, ◌==◌, List, [], ◌∷◌, ◌++◌, length, codes, Option, Some, None, is_none, refl, sym, ap, ◌∙◌}
use Rattle.std.specs.Prelude.{flat_map, nat_lt, if◌then◌else◌}
use Rattle.std.specs.List.{AllByRecursion, list_any}
use Rattle.kr_base.proofs.ListLemmas.{append_is_nil}
use Rattle.kr_classes_table.specs.Types.{JavaType}
use Rattle.kr_classes_table.specs.Table.{Parameter, Table}
use Rattle.kr_mean.specs.declared.mode.Mode.{Mode}
use Rattle.kr_mean.specs.declared.mode.Mode.TheVariants.{List as Listing, Method as Testing}
use Rattle.kr_mean.specs.Problem.{Domain, Problem, choices_in, domain_at, slots}
use Rattle.kr_fin.specs.declared.document.ArrayBound.{ArrayBound}
use Rattle.kr_fin.specs.declared.document.Count.{Count}
use Rattle.kr_fin.specs.declared.document.FinDoc.{FinDoc}
use Rattle.kr_fin.specs.declared.document.NamedDomain.{NamedDomain}
use Rattle.kr_fin.specs.declared.document.Item.{Item}
use Rattle.kr_fin.specs.declared.document.Item.TheVariants.{Number, Range, Truth, Name}
use Rattle.kr_space_meaning.specs.declared.refusal.SpaceRule.TheVariants.{UnknownName, NoPredicate, NoMethod, EmptyDomain, TooMany, UnfitValue}
use Rattle.kr_space_meaning.specs.Names.{Meant, array_type, class_of}
use Rattle.kr_space_meaning.specs.Order.{Fault, break_if}
use Rattle.kr_space_meaning.specs.Bounds.{Setting, elements_key, greatest, lengths_of, root_of, tested_parameters, values_of}
use Rattle.kr_space_meaning.specs.Keys.{field_type, method_at, parameter_type}
use Rattle.kr_space_meaning.specs.Faults.{S1, S2, S3_S5_S6, S4, S7, S8, S9, array_S2, arrays_unknown, faults_in, fields_unfit, fits, is_instance, is_predicate, is_unfit, class_unknown, is_unknown, meant_fits, names_predefined, names_unknown, no_domain, no_fields, no_params, number_faults, numbers_of, numbers_of_lengths, object_S2, objects_unknown, of_arrays, of_fields, of_objects, of_params, owners_unknown, parameter_S2, params_unfit, root_unknown, value_unknown, values_unknown}
use Rattle.kr_space_meaning.proofs.Each.{each_weaker}
use Rattle.kr_fin_upgrade.proofs.Values.{AreSame, SameItem, SameItems, flat_same, second}
use Rattle.kr_fin_upgrade.proofs.Values as values

any_same : {A : Type 0} (p q : A → Bool) (xs : List A) → AllByRecursion (λ x. p x ≡ q x) xs → list_any p xs ≡ list_any q xs
any_same p q [] h = refl
any_same p q (x ∷ xs) h = ap (λ (b : Bool). b || list_any p xs) h.0 ∙ ap (λ (b : Bool). q x || b) (any_same p q xs h.1)

pub neither : (a b : Bool) → (a || b) ≡ false → (a ≡ false) × (b ≡ false)
neither false b e = (refl, e)
neither true b e = absurd (cc (e))

module _ (table : Table) (types : List JavaType) (objects : List (ℕ × Count)) (arrays : List (JavaType × ArrayBound)) (cs : List Count) (d : FinDoc) (same : AreSame table cs d arrays) where
  abbrev old : Setting
  old = values.old table types objects arrays cs d

  abbrev new : Setting
  new = values.new table types objects arrays cs d

  root_same : root_of new ≡ root_of old
  root_same = same.root

  meant_by : (f : Meant → Bool) (n : List ℕ) → SameItem table cs d (Name n) → f (Rattle.kr_space_meaning.specs.Names.meant table.headings (second cs d) n) ≡ f (Rattle.kr_space_meaning.specs.Names.meant table.headings d n)
  meant_by f n h = ap f (values.meant_same table types objects arrays cs d n h)

  -- ---- names

  known_kept : (i : Item) → SameItem table cs d i → names_unknown table.headings d i ≡ false → names_unknown table.headings (second cs d) i ≡ false
  known_kept (Name n) h e =
      ap (λ (b : Bool). b || false) (meant_by is_unknown n h ∙ (neither (is_unknown (Rattle.kr_space_meaning.specs.Names.meant table.headings d n)) (names_predefined d n) e).0)
  known_kept (Number z) h e = refl
  known_kept (Range from to) h e = refl
  known_kept (Truth b) h e = refl

  known_items : (is : List Item) → SameItems table cs d is → list_any (names_unknown table.headings d) is ≡ false → list_any (names_unknown table.headings (second cs d)) is ≡ false
  known_items [] h e = refl
  known_items (i ∷ is) h e =
      let parts = neither (names_unknown table.headings d i) (list_any (names_unknown table.headings d) is) e in
      ap (λ (b : Bool). b || list_any (names_unknown table.headings (second cs d)) is) (known_kept i h.0 parts.0) ∙ known_items is h.1 parts.1

  known_domain : (name : List ℕ) (x : NamedDomain) → SameItems table cs d x.domain → value_unknown table.headings d name x ≡ [] → value_unknown table.headings (second cs d) name x ≡ []
  known_domain name x h e =
      ap (λ (b : Bool). break_if b UnknownName (name ++ x.key))
      (known_items x.domain h (Rattle.kr_space_meaning.proofs.Each.unbroken (list_any (names_unknown table.headings d) x.domain) UnknownName (name ++ x.key) e))

  known_domains : (name : List ℕ) (ds : List NamedDomain) → AllByRecursion (λ x. SameItems table cs d x.domain) ds → values_unknown table.headings d name ds ≡ [] → values_unknown table.headings (second cs d) name ds ≡ []
  known_domains name [] h e = refl
  known_domains name (x ∷ ds) h e =
      let parts = append_is_nil (value_unknown table.headings d name x) (values_unknown table.headings d name ds) e in
      ap (λ (fs : List Fault). fs ++ values_unknown table.headings (second cs d) name ds) (known_domain name x h.0 parts.0) ∙ known_domains name ds h.1 parts.1

  objects_known : (ls : List Count) → AllByRecursion (λ c. class_unknown table.headings c.class ≡ false) ls → objects_unknown table.headings ls ≡ []
  objects_known [] h = refl
  objects_known (c ∷ ls) h = ap (λ (b : Bool). break_if b UnknownName (of_objects c.name) ++ objects_unknown table.headings ls) h.0 ∙ objects_known ls h.1

  -- what is left of the faults of names
  abbrev other_names : FinDoc → List Fault
  other_names document =
      arrays_unknown table.headings d.arrays
      ++ (owners_unknown table.headings d.fields
      ++ (values_unknown table.headings document (codes "fields.") d.fields
      ++ values_unknown table.headings document (codes "params.") d.params))

  other_kept : other_names d ≡ [] → other_names (second cs d) ≡ []
  other_kept e =
      let after_arrays = append_is_nil (arrays_unknown table.headings d.arrays) _ e in
      let after_owners = append_is_nil (owners_unknown table.headings d.fields) _ after_arrays.1 in
      let values = append_is_nil (values_unknown table.headings d (codes "fields.") d.fields) (values_unknown table.headings d (codes "params.") d.params) after_owners.1 in
      ap (λ (fs : List Fault). fs ++ (owners_unknown table.headings d.fields ++ (values_unknown table.headings (second cs d) (codes "fields.") d.fields ++ values_unknown table.headings (second cs d) (codes "params.") d.params))) after_arrays.0
      ∙ (ap (λ (fs : List Fault). fs ++ (values_unknown table.headings (second cs d) (codes "fields.") d.fields ++ values_unknown table.headings (second cs d) (codes "params.") d.params)) after_owners.0
      ∙ (ap (λ (fs : List Fault). fs ++ values_unknown table.headings (second cs d) (codes "params.") d.params) (known_domains (codes "fields.") d.fields same.fields values.0)
      ∙ known_domains (codes "params.") d.params same.params values.1))

  -- the root is known to version 1
  pub root_is_known : (d.version == 2) ≡ false → root_unknown table.headings d ≡ false → is_none (class_of table.headings d d.root) ≡ false
  root_is_known first e = go (is_none (class_of table.headings d d.root)) (ap (λ (b : Bool). is_none (class_of table.headings d d.root) && (not b || is_none (array_type table.headings d.root))) (sym first) ∙ e)
    where
      go : (b : Bool) → (b && true) ≡ false → b ≡ false
      go false h = refl
      go true h = absurd (cc (h))

  root_known : is_none (class_of table.headings d d.root) ≡ false → root_unknown table.headings (second cs d) ≡ false
  root_known h =
      ap (λ (o : Option ℕ). is_none o && (false || is_none (array_type table.headings d.root))) same.root
      ∙ ap (λ (b : Bool). b && (false || is_none (array_type table.headings d.root))) h

  names_kept : (d.version == 2) ≡ false → AllByRecursion (λ c. class_unknown table.headings c.class ≡ false) cs → S1 old ≡ [] → S1 new ≡ []
  names_kept first known e =
      let parts = append_is_nil (break_if (root_unknown table.headings d) UnknownName (codes "root")) (objects_unknown table.headings d.objects ++ other_names d) e in
      let others = (append_is_nil (objects_unknown table.headings d.objects) (other_names d) parts.1).1 in
      let root = root_known (root_is_known first (Rattle.kr_space_meaning.proofs.Each.unbroken (root_unknown table.headings d) UnknownName (codes "root") parts.0)) in
      ap (λ (b : Bool). break_if b UnknownName (codes "root") ++ (objects_unknown table.headings cs ++ other_names (second cs d))) root
      ∙ (ap (λ (fs : List Fault). fs ++ other_names (second cs d)) (objects_known cs known) ∙ other_kept others)

  -- ---- domains

  domains_kept : (mode : Mode) → S2 new mode ≡ S2 old mode
  domains_kept mode =
      ap (λ (fs : List Fault). flat_map (object_S2 old) objects ++ (fs ++ flat_map (parameter_S2 new mode) (tested_parameters new mode)))
      (flat_same (array_S2 new) (array_S2 old) arrays (each_weaker (λ a. SameItems table cs d a.1.lengths) (λ a. array_S2 new a ≡ array_S2 old a) arrays one same.bounded))
      ∙ ap (λ (ps : List Parameter). flat_map (object_S2 old) objects ++ (flat_map (array_S2 old) arrays ++ flat_map (parameter_S2 old mode) ps)) (values.tested_same table types objects arrays cs d same mode)
    where
      one : (a : JavaType × ArrayBound) → SameItems table cs d a.1.lengths → array_S2 new a ≡ array_S2 old a
      one a h =
          ap (λ (ls : Domain). if nat_lt 0 a.1.count && nat_lt 0 (greatest ls) then no_domain (codes "fields.") d.fields (elements_key a.1.name) else [])
          (values.lengths_same table types objects arrays cs d a.1.lengths h)

  -- ---- numbers of values

  numbers_kept : (problem : Problem) (asked : List ℕ → Option JavaType) (name : List ℕ) (ds : List NamedDomain) → AllByRecursion (λ x. SameItems table cs d x.domain) ds → numbers_of problem new asked name ds ≡ numbers_of problem old asked name ds
  numbers_kept problem asked name ds h =
      flat_same (λ x. number_faults (name ++ x.key) (choices_in problem (values_of new (asked x.key) x.domain))) (λ x. number_faults (name ++ x.key) (choices_in problem (values_of old (asked x.key) x.domain))) ds
      (each_weaker (λ x. SameItems table cs d x.domain) (λ x. number_faults (name ++ x.key) (choices_in problem (values_of new (asked x.key) x.domain)) ≡ number_faults (name ++ x.key) (choices_in problem (values_of old (asked x.key) x.domain))) ds
      (λ x k. ap (λ (vs : Domain). number_faults (name ++ x.key) (choices_in problem vs)) (values.values_same table types objects arrays cs d (asked x.key) x.domain k)) h)

  lengths_kept : (problem : Problem) (bs : List ArrayBound) → AllByRecursion (λ b. SameItems table cs d b.lengths) bs → numbers_of_lengths problem new bs ≡ numbers_of_lengths problem old bs
  lengths_kept problem bs h =
      flat_same (λ b. number_faults (of_arrays b.name) (choices_in problem (lengths_of new b.lengths))) (λ b. number_faults (of_arrays b.name) (choices_in problem (lengths_of old b.lengths))) bs
      (each_weaker (λ b. SameItems table cs d b.lengths) (λ b. number_faults (of_arrays b.name) (choices_in problem (lengths_of new b.lengths)) ≡ number_faults (of_arrays b.name) (choices_in problem (lengths_of old b.lengths))) bs
      (λ b k. ap (λ (vs : Domain). number_faults (of_arrays b.name) (choices_in problem vs)) (values.lengths_same table types objects arrays cs d b.lengths k)) h)

  counts_kept : (problem : Problem) → S3_S5_S6 problem new ≡ S3_S5_S6 problem old
  counts_kept problem =
      let asked : Option ℕ → List ℕ → Option JavaType = λ r. parameter_type table r in
      let last : List Fault = break_if ((domain_at problem problem.root).count == 0) EmptyDomain (codes "this") ++ break_if (nat_lt 4096 (length (slots problem))) TooMany (codes "slots") in
      ap (λ (fs : List Fault). fs ++ (numbers_of problem new (asked (root_of new)) (codes "params.") d.params ++ (numbers_of_lengths problem new d.arrays ++ last))) (numbers_kept problem (field_type table) (codes "fields.") d.fields same.fields)
      ∙ (ap (λ (r : Option ℕ). numbers_of problem old (field_type table) (codes "fields.") d.fields ++ (numbers_of problem new (asked r) (codes "params.") d.params ++ (numbers_of_lengths problem new d.arrays ++ last))) root_same
      ∙ (ap (λ (fs : List Fault). numbers_of problem old (field_type table) (codes "fields.") d.fields ++ (fs ++ (numbers_of_lengths problem new d.arrays ++ last))) (numbers_kept problem (asked (root_of old)) (codes "params.") d.params same.params)
      ∙ ap (λ (fs : List Fault). numbers_of problem old (field_type table) (codes "fields.") d.fields ++ (numbers_of problem old (asked (root_of old)) (codes "params.") d.params ++ (fs ++ last))) (lengths_kept problem d.arrays same.bounds)))

  -- ---- types

  fits_same : (t : JavaType) (i : Item) → SameItem table cs d i → not (fits table (second cs d) t i) ≡ not (fits table d t i)
  fits_same t (Name n) h = meant_by (λ m. not (meant_fits table t m)) n h
  fits_same t (Number z) h = refl
  fits_same t (Range from to) h = refl
  fits_same t (Truth b) h = refl

  unfit_same : (t : Option JavaType) (items : List Item) → SameItems table cs d items → is_unfit table (second cs d) t items ≡ is_unfit table d t items
  unfit_same None items h = refl
  unfit_same (Some t) items h =
      any_same (λ i. not (fits table (second cs d) t i)) (λ i. not (fits table d t i)) items
      (each_weaker (SameItem table cs d) (λ i. not (fits table (second cs d) t i) ≡ not (fits table d t i)) items (fits_same t) h)

  unfit_kept : (asked : List ℕ → Option JavaType) (at : List ℕ → List ℕ) (ds : List NamedDomain) → AllByRecursion (λ x. SameItems table cs d x.domain) ds
      → flat_map (λ x. break_if (is_unfit table (second cs d) (asked x.key) x.domain) UnfitValue (at x.key)) ds ≡ flat_map (λ x. break_if (is_unfit table d (asked x.key) x.domain) UnfitValue (at x.key)) ds
  unfit_kept asked at ds h =
      flat_same (λ x. break_if (is_unfit table (second cs d) (asked x.key) x.domain) UnfitValue (at x.key)) (λ x. break_if (is_unfit table d (asked x.key) x.domain) UnfitValue (at x.key)) ds
      (each_weaker (λ x. SameItems table cs d x.domain) (λ x. break_if (is_unfit table (second cs d) (asked x.key) x.domain) UnfitValue (at x.key) ≡ break_if (is_unfit table d (asked x.key) x.domain) UnfitValue (at x.key)) ds
      (λ x k. ap (λ (b : Bool). break_if b UnfitValue (at x.key)) (unfit_same (asked x.key) x.domain k)) h)

  types_kept : S4 new ≡ S4 old
  types_kept =
      ap (λ (fs : List Fault). fs ++ params_unfit table (second cs d) (root_of new) d.params) (unfit_kept (field_type table) of_fields d.fields same.fields)
      ∙ (ap (λ (r : Option ℕ). fields_unfit table d d.fields ++ params_unfit table (second cs d) r d.params) root_same
      ∙ ap (λ (fs : List Fault). fields_unfit table d d.fields ++ fs) (unfit_kept (parameter_type table (root_of old)) of_params d.params same.params))

  -- ---- methods

  predicate_kept : S7 new ≡ S7 old
  predicate_kept = ap (λ (r : Option ℕ). break_if (not (is_predicate (method_at table r (codes "repOk")))) NoPredicate (codes "root")) root_same

  method_kept : (mode : Mode) → S8 new mode ≡ S8 old mode
  method_kept Listing = refl
  method_kept (Testing name) = ap (λ (r : Option ℕ). break_if (not (is_instance (method_at table r name))) NoMethod (codes "method")) root_same

  slots_kept : S9 new ≡ S9 old
  slots_kept = ap (λ (r : Option ℕ). no_fields table d.fields ++ no_params table r d.params) root_same

  -- ---- the whole

  abbrev others : Problem → Setting → Mode → List Fault
  others problem setting mode = S2 setting mode ++ (S3_S5_S6 problem setting ++ (S4 setting ++ (S7 setting ++ (S8 setting mode ++ S9 setting))))

  both : {A : Type 0} (f : A → A → A) {a b c e : A} → a ≡ b → c ≡ e → f a c ≡ f b e
  both f {b = b} {c = c} p q = ap (λ x. f x c) p ∙ ap (f b) q

  in_turn : {a b c e : List Fault} → a ≡ b → c ≡ e → a ++ c ≡ b ++ e
  in_turn p q = both (λ (x y : List Fault). x ++ y) p q

  others_kept : (problem : Problem) (mode : Mode) → others problem new mode ≡ others problem old mode
  others_kept problem mode = in_turn (domains_kept mode) (in_turn (counts_kept problem) (in_turn types_kept (in_turn predicate_kept (in_turn (method_kept mode) slots_kept))))

  pub kept : (problem : Problem) (mode : Mode) → (d.version == 2) ≡ false → AllByRecursion (λ c. class_unknown table.headings c.class ≡ false) cs → faults_in problem old mode ≡ [] → faults_in problem new mode ≡ []
  unfolding faults_in
  kept problem mode first known e =
      let parts = append_is_nil (S1 old) (others problem old mode) e in
      in_turn (names_kept first known parts.0) (others_kept problem mode ∙ parts.1)
