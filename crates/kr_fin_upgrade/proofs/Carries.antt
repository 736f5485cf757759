-- Carried over, an accepted document stays accepted, with the same problem.
use Rattle.std.proofs.Common.{◌≡◌, ℕ, ◌==◌, Bool, true, false, not, ◌&&◌, ◌||◌, List, [], ◌∷◌, ◌++◌, fold, Option, Some, None, is_none, pos, codes, refl, sym, ap, ◌∙◌, subst}
use Rattle.std.specs.Prelude.{flat_map}
use Rattle.std.specs.List.{AllByRecursion, list_any}
use Rattle.std.proofs.lemmas.List.Sums.{fold-append}
use Rattle.kr_ast.specs.Tree.{Tree}
use Rattle.kr_base.proofs.ListLemmas.{append_is_nil}
use Rattle.kr_classes_table.specs.Types.{JavaType}
use Rattle.kr_classes_table.specs.Arrays.{array_types_of, arrays_in, once}
use Rattle.kr_classes_table.specs.Predefined.{is_predefined}
use Rattle.kr_classes_table.specs.Table.{Heading, Table, headings_of, number_of, table_of}
use Rattle.kr_mean.specs.declared.mode.Mode.{Mode}
use Rattle.kr_mean.specs.Problem.{Problem}
use Rattle.kr_fin.specs.declared.document.ArrayBound.{ArrayBound}
use Rattle.kr_fin.specs.declared.document.Count.{Count}
use Rattle.kr_fin.specs.declared.document.FinDoc.{FinDoc}
use Rattle.kr_fin.specs.declared.document.NamedDomain.{NamedDomain}
use Rattle.kr_fin.specs.declared.document.Item.{Item}
use Rattle.kr_fin.specs.declared.document.Item.TheVariants.{Number, Range, Truth, Name}
use Rattle.kr_fin.specs.declared.shapes.Purpose.TheVariants.{Lengths}
use Rattle.kr_fin.proofs.Ordered.{none_ascend}
use Rattle.kr_fin.specs.Shapes.{counts, have, is_domain_name}
use Rattle.kr_space_meaning.specs.declared.refusal.SpaceRule.TheVariants.{UnknownName}
use Rattle.kr_space_meaning.specs.Bounds.{Setting, bounded, declared, problem_in, program_in, setting_of, typed_bound}
use Rattle.kr_space_meaning.specs.Faults.{S1, arrays_unknown, class_unknown, faults_in, is_unknown, names_predefined, names_unknown, objects_unknown, of_objects, owners_unknown, root_unknown, value_unknown, values_unknown}
use Rattle.kr_space_meaning.specs.Meaning.{faults_of}
use Rattle.kr_space_meaning.specs.Names.{array_type, meant}
use Rattle.kr_space_meaning.specs.Order.{break_if}
use Rattle.kr_space_meaning.proofs.Each.{each_flat, each_of_both, each_weaker, none_each, unbroken}
use Rattle.kr_fin_upgrade.specs.Documents.{IsBound, IsCount, IsDocument, IsItem}
use Rattle.kr_fin_upgrade.specs.Laws.{AreDomainNames, Poses, UpgradeLaw}
use Rattle.kr_fin_upgrade.specs.Upgraded.{add_line, all_lines, domain_lines, has_line, line, lines_of, name_lines, up}
use Rattle.kr_fin_upgrade.proofs.Added.{ascends_folded, declared_folded, each_folded, folded_there, lines_stay}
use Rattle.kr_fin_upgrade.proofs.Kept.{kept, neither, root_is_known}
use Rattle.kr_fin_upgrade.proofs.Meant.{class_is_named}
use Rattle.kr_fin_upgrade.proofs.OwnRoot.{root_is_own, some_class}
use Rattle.kr_fin_upgrade.proofs.Stands.{Lined, OfName, OfNames, class_is_known, first_class, halves, names_so, of_domains, of_name, same_name, to_domains, to_name}
use Rattle.kr_fin_upgrade.proofs.Values.{AreSame, SameItem, SameItems, each_is, problem_same, second}
use Rattle.kr_fin_upgrade.proofs.Values as values

none_any : {A : Type 0} (p : A → Bool) (xs : List A) → list_any p xs ≡ false → AllByRecursion (λ x. p x ≡ false) xs
none_any p [] e = tt
none_any p (x ∷ xs) e = go (p x) refl e (none_any p xs)
  where
    go : (b : Bool) → p x ≡ b → (b || list_any p xs) ≡ false → (list_any p xs ≡ false → AllByRecursion (λ y. p y ≡ false) xs) → AllByRecursion (λ y. p y ≡ false) (x ∷ xs)
    go false is e rest = (is, rest e)
    go true is e rest = absurd (cc (e))

-- a line of a class, with a number of objects within the limit
record IsGood (hs : List Heading) (c : Count) : Type 0 where
  few : have counts (pos c.count) ≡ true
  known : class_unknown hs c.name ≡ false

module _ (hs : List Heading) (d : FinDoc) (named : AreDomainNames hs) (is : IsDocument d) (first : (d.version == 2) ≡ false) where
  abbrev lines : List Count
  lines = all_lines (lines_of d)

  -- the names beside the object domains
  abbrev others : List Count
  others = name_lines d.root ++ (domain_lines d.fields ++ domain_lines d.params)

  own_classes : AllByRecursion (λ c. c.class ≡ c.name) d.objects
  own_classes = each_weaker (IsCount false) (λ c. c.class ≡ c.name) d.objects (λ c h. h.named) (subst (λ (b : Bool). AllByRecursion (IsCount b) d.objects) first is.objects)

  classes : AllByRecursion (λ c. c.class ≡ c.name) lines
  classes = each_folded (λ c. c.class ≡ c.name) [] (lines_of d) tt (each_is (λ c. c.name ≡ c.name) (lines_of d) (λ c. refl))

  -- ---- what is declared

  no_objects : AllByRecursion (λ c. c.count ≡ 0) others
  no_objects =
      let P : Count → Type 0 = λ c. c.count ≡ 0 in
      let none : (ds : List NamedDomain) → OfNames (Lined P) ds = λ ds. each_is (λ x. AllByRecursion (OfName (Lined P)) x.domain) ds (λ x. each_is (OfName (Lined P)) x.domain one) in
      each_of_both P (name_lines d.root) (domain_lines d.fields ++ domain_lines d.params) (of_name P d.root (λ _. refl))
      (each_of_both P (domain_lines d.fields) (domain_lines d.params) (of_domains P d.fields (none d.fields)) (of_domains P d.params (none d.params)))
    where
      one : (i : Item) → OfName (Lined (λ c. c.count ≡ 0)) i
      one (Name n) = λ _. refl
      one (Number z) = tt
      one (Range from to) = tt
      one (Truth b) = tt

  pub same_objects : declared hs lines ≡ declared hs d.objects
  same_objects =
      ap (declared hs) (fold-append add_line [] d.objects others ∙ ap (λ (cs : List Count). fold add_line cs others) (lines_stay d.objects is.order.objects own_classes))
      ∙ declared_folded hs d.objects others no_objects

  -- ---- names

  abbrev Stays : List ℕ → Type 0
  Stays n = is_domain_name n ≡ true → has_line lines n ≡ true

  record HaveLines : Type 0 where
    root : Stays d.root
    fields : OfNames Stays d.fields
    params : OfNames Stays d.params

  have_lines : HaveLines
  have_lines =
      let P : Count → Type 0 = λ c. has_line lines c.name ≡ true in
      let all = halves P d.objects others (folded_there [] (lines_of d)) in
      let root = halves P (name_lines d.root) (domain_lines d.fields ++ domain_lines d.params) all.1 in
      let both = halves P (domain_lines d.fields) (domain_lines d.params) root.1 in
      record { root = to_name P d.root root.0; fields = to_domains P d.fields both.0; params = to_domains P d.params both.1 }

module _ (table : Table) (d : FinDoc) (named : AreDomainNames table.headings) (is : IsDocument d) (first : (d.version == 2) ≡ false) where
  abbrev hs : List Heading
  hs = table.headings

  abbrev new_lines : List Count
  new_lines = all_lines (lines_of d)

  of_same : (n : List ℕ) → (is_domain_name n ≡ true → has_line new_lines n ≡ true) → values.SameName table new_lines d n
  of_same n h = same_name table.headings new_lines d n named first (classes table.headings d named is first) h

  same_items : (items : List Item) → AllByRecursion (OfName (values.SameName table new_lines d)) items → SameItems table new_lines d items
  same_items items h = each_weaker (OfName (values.SameName table new_lines d)) (SameItem table new_lines d) items one h
    where
      one : (i : Item) → OfName (values.SameName table new_lines d) i → SameItem table new_lines d i
      one (Name n) h = h
      one (Number z) h = tt
      one (Range from to) h = tt
      one (Truth b) h = tt

  same_domains : (ds : List NamedDomain) → OfNames (λ n. is_domain_name n ≡ true → has_line new_lines n ≡ true) ds → AllByRecursion (λ x. SameItems table new_lines d x.domain) ds
  same_domains ds h =
      each_weaker (λ x. AllByRecursion (OfName (values.SameName table new_lines d)) x.domain) (λ x. SameItems table new_lines d x.domain) ds (λ x k. same_items x.domain k)
      (names_so (λ n. is_domain_name n ≡ true → has_line new_lines n ≡ true) (values.SameName table new_lines d) ds of_same h)

  lengths_only : (i : Item) → IsItem Lengths i → SameItem table new_lines d i
  lengths_only (Name n) h = absurd h
  lengths_only (Number z) h = tt
  lengths_only (Range from to) h = tt
  lengths_only (Truth b) h = tt

  same_bounds : AllByRecursion (λ b. SameItems table new_lines d b.lengths) d.arrays
  same_bounds = each_weaker IsBound (λ b. SameItems table new_lines d b.lengths) d.arrays (λ b h. each_weaker (IsItem Lengths) (SameItem table new_lines d) b.lengths lengths_only h.lengths) is.arrays

  same_arrays : AllByRecursion (λ a. SameItems table new_lines d a.1.lengths) (bounded table.headings d.arrays)
  same_arrays =
      each_flat (λ a. SameItems table new_lines d a.1.lengths) (λ b. typed_bound (array_type table.headings b.name) b) d.arrays
      (each_weaker (λ b. SameItems table new_lines d b.lengths) (λ b. AllByRecursion (λ a. SameItems table new_lines d a.1.lengths) (typed_bound (array_type table.headings b.name) b)) d.arrays (λ b h. one (array_type table.headings b.name) b h) same_bounds)
    where
      one : (o : Option JavaType) (b : ArrayBound) → SameItems table new_lines d b.lengths → AllByRecursion (λ a. SameItems table new_lines d a.1.lengths) (typed_bound o b)
      one None b h = tt
      one (Some t) b h = (h, tt)

  pub are_same : AreSame table new_lines d (bounded table.headings d.arrays)
  are_same =
      let l = have_lines table.headings d named is first in
      record {
        root = of_same d.root l.root;
        fields = same_domains d.fields l.fields;
        params = same_domains d.params l.params;
        bounds = same_bounds;
        bounded = same_arrays;
      }

  -- ---- each line is a class's

  -- a name that version 1 doesn't refuse as a predefined class's
  own_name : (n : List ℕ) → names_predefined d n ≡ false → is_predefined n ≡ false
  own_name n e = ap (λ (b : Bool). not b && is_predefined n) (sym first) ∙ e

  known_items : (items : List Item) → list_any (names_unknown table.headings d) items ≡ false → AllByRecursion (OfName (Lined (IsGood table.headings))) items
  known_items items e = each_weaker (λ i. names_unknown table.headings d i ≡ false) (OfName (Lined (IsGood table.headings))) items one (none_any (names_unknown table.headings d) items e)
    where
      one : (i : Item) → names_unknown table.headings d i ≡ false → OfName (Lined (IsGood table.headings)) i
      one (Name n) e = λ is. record { few = refl; known = ap (λ (b : Bool). b || is_predefined n) (class_is_known table.headings d n first is (neither (is_unknown (meant table.headings d n)) (names_predefined d n) e).0) ∙ own_name n (neither (is_unknown (meant table.headings d n)) (names_predefined d n) e).1 }
      one (Number z) e = tt
      one (Range from to) e = tt
      one (Truth b) e = tt

  known_domains : (name : List ℕ) (ds : List NamedDomain) → values_unknown table.headings d name ds ≡ [] → OfNames (Lined (IsGood table.headings)) ds
  known_domains name ds e =
      each_weaker (λ x. value_unknown table.headings d name x ≡ []) (λ x. AllByRecursion (OfName (Lined (IsGood table.headings))) x.domain) ds
      (λ x k. known_items x.domain (unbroken (list_any (names_unknown table.headings d) x.domain) UnknownName (name ++ x.key) k)) (none_each (value_unknown table.headings d name) ds e)

  good_objects : (cs : List Count) → AllByRecursion (IsCount false) cs → objects_unknown table.headings cs ≡ [] → AllByRecursion (IsGood table.headings) cs
  good_objects [] h e = tt
  good_objects (c ∷ cs) h e =
      let parts = append_is_nil (break_if (class_unknown table.headings c.class) UnknownName (of_objects c.name)) (objects_unknown table.headings cs) e in
      let known = unbroken (class_unknown table.headings c.class) UnknownName (of_objects c.name) parts.0 in
      (record { few = h.0.few; known = ap (class_unknown table.headings) (sym h.0.named) ∙ known }, good_objects cs h.1 parts.1)

  module _ (objects : List (ℕ × Count)) (types : List JavaType) (kept_names : S1 (values.old table types objects (bounded table.headings d.arrays) new_lines d) ≡ []) (own_root : is_predefined d.root ≡ false) where
    good_lines : AllByRecursion (IsGood table.headings) (lines_of d)
    good_lines =
        let P : Count → Type 0 = IsGood table.headings in
        let e1 = append_is_nil (break_if (root_unknown table.headings d) UnknownName (codes "root")) _ kept_names in
        let e2 = append_is_nil (objects_unknown table.headings d.objects) _ e1.1 in
        let e3 = append_is_nil (arrays_unknown table.headings d.arrays) _ e2.1 in
        let e4 = append_is_nil (owners_unknown table.headings d.fields) _ e3.1 in
        let e5 = append_is_nil (values_unknown table.headings d (codes "fields.") d.fields) _ e4.1 in
        let known = root_is_known table types objects (bounded table.headings d.arrays) new_lines d are_same first (unbroken (root_unknown table.headings d) UnknownName (codes "root") e1.0) in
        let root = ap (λ (o : Option ℕ). is_none o || is_predefined d.root) (sym (first_class table.headings d d.root first)) ∙ (ap (λ (b : Bool). b || is_predefined d.root) known ∙ own_root) in
        each_of_both P d.objects _ (good_objects d.objects (subst (λ (b : Bool). AllByRecursion (IsCount b) d.objects) first is.objects) e2.0)
        (each_of_both P (name_lines d.root) _ (of_name P d.root (λ _. record { few = refl; known = root }))
        (each_of_both P (domain_lines d.fields) (domain_lines d.params) (of_domains P d.fields (known_domains (codes "fields.") d.fields e5.0)) (of_domains P d.params (known_domains (codes "params.") d.params e5.1))))

    all_good : AllByRecursion (IsGood table.headings) new_lines
    all_good = each_folded (IsGood table.headings) [] (lines_of d) tt (each_weaker (IsGood table.headings) (λ c. IsGood table.headings (line c.name c.count)) (lines_of d) (λ c g. record { few = g.few; known = g.known }) good_lines)

    pub classes_known : AllByRecursion (λ c. class_unknown table.headings c.class ≡ false) new_lines
    classes_known = each_folded (λ c. class_unknown table.headings c.class ≡ false) [] (lines_of d) tt (each_weaker (IsGood table.headings) (λ c. class_unknown table.headings c.name ≡ false) (lines_of d) (λ c g. g.known) good_lines)

    -- ---- the document

    count_good : (c : Count) → IsGood table.headings c → IsCount true c
    count_good c g =
        let (k, is) = some_class (number_of table.headings c.name) (neither (is_none (number_of table.headings c.name)) (is_predefined c.name) g.known).0 in
        record { few = g.few; named = class_is_named table.headings c.name k named is }

    pub document_kept : IsDocument (second new_lines d)
    document_kept = record {
      version = refl;
      fuel = is.fuel;
      objects = each_weaker (IsGood table.headings) (IsCount true) new_lines count_good all_good;
      arrays = is.arrays;
      fields = is.fields;
      params = is.params;
      order = record { objects = ascends_folded [] (lines_of d) none_ascend; arrays = is.order.arrays; fields = is.order.fields; params = is.order.params };
    }

-- ---- the law

names_old : (p : Problem) (mode : Mode) (setting : Setting) → faults_in p setting mode ≡ [] → S1 setting ≡ []
unfolding faults_in
names_old p mode setting e = (append_is_nil (S1 setting) _ e).0

module _ (files : List Tree) (d : FinDoc) (mode : Mode) (named : AreDomainNames (table_of files).headings) (is : IsDocument d) (first : (d.version == 2) ≡ false) where
  abbrev table : Table
  table = table_of files

  abbrev arrays : List (JavaType × ArrayBound)
  arrays = bounded table.headings d.arrays

  abbrev types : List JavaType
  types = once [] (array_types_of files ++ flat_map (λ a. arrays_in a.0) arrays)

  abbrev objects : List (ℕ × Count)
  objects = declared table.headings d.objects

  abbrev lines_after : List Count
  lines_after = all_lines (lines_of d)

  abbrev old : Setting
  old = values.old table types objects arrays lines_after d

  abbrev new : Setting
  new = values.new table types objects arrays lines_after d

  setting_old : setting_of files d ≡ old
  unfolding setting_of
  setting_old = refl

  setting_new : setting_of files (second lines_after d) ≡ new
  unfolding setting_of
  setting_new = ap (λ (os : List (ℕ × Count)). values.new table types os arrays lines_after d) (same_objects table.headings d named is first)

  abbrev problem : Setting → Problem
  problem s = problem_in (program_in s) s mode

  same : AreSame table lines_after d arrays
  same = are_same table d named is first

  problems_same : problem new ≡ problem old
  problems_same = problem_same table types objects arrays lines_after d same (program_in old) mode

  root_own : S1 old ≡ [] → faults_of files d mode ≡ [] → is_predefined d.root ≡ false
  root_own names e =
      let root = append_is_nil (break_if (root_unknown table.headings d) UnknownName (codes "root")) _ names in
      let objects_are = append_is_nil (objects_unknown table.headings d.objects) _ root.1 in
      let there = root_is_known table types objects arrays lines_after d same first (unbroken (root_unknown table.headings d) UnknownName (codes "root") root.0) in
      root_is_own files d mode (own_classes table.headings d named is first) objects_are.0 there e

  pub law : faults_of files d mode ≡ [] → Poses files mode (second lines_after d) d
  law e =
      let none : faults_in (problem old) old mode ≡ [] = ap (λ (s : Setting). faults_in (problem s) s mode) (sym setting_old) ∙ e in
      let names = names_old (problem old) mode old none in
      let own = root_own names e in
      let known = classes_known table d named is first objects types names own in
      record {
        document_is = document_kept table d named is first objects types names own;
        unbroken =
            ap (λ (s : Setting). faults_in (problem s) s mode) setting_new
            ∙ (ap (λ (p : Problem). faults_in p new mode) problems_same
            ∙ kept table types objects arrays lines_after d same (problem old) mode first known none);
        problem = ap problem setting_new ∙ (problems_same ∙ sym (ap problem setting_old));
      }

headings_are : (files : List Tree) → (table_of files).headings ≡ headings_of files
unfolding table_of
headings_are files = refl

pub upgraded : UpgradeLaw
unfolding up
upgraded files d mode named is first e = law files d mode (subst AreDomainNames (sym (headings_are files)) named) is first e
