-- A document of version 2 poses the problem of one of version 1 whose names stand for the same.
use Rattle.std.proofs.Common.{◌≡◌, ℕ, ◌+◌, Bool, true, false, List, [], ◌∷◌, ◌++◌, map, length, codes, Option, Some, refl, ap, ◌∙◌}
use Rattle.std.specs.Prelude.{bytes_eq, flat_map, unwrap_or, if◌then◌else◌}
use Rattle.std.specs.List.{AllByRecursion}
use Rattle.kr_classes_table.specs.Types.{JavaType}
use Rattle.kr_classes_table.specs.Arrays.{array_number}
use Rattle.kr_classes_table.specs.Numbers.{Width, Bits32}
use Rattle.kr_classes_table.specs.Table.{Table, Field, Parameter, fields_of}
use Rattle.kr_value.specs.declared.object.Class.TheVariants.{Object, Array}
use Rattle.kr_value.specs.declared.object.Spot.TheVariants.{Field as FieldSpot}
use Rattle.kr_mean.specs.declared.mode.Mode.{Mode}
use Rattle.kr_mean.specs.declared.mode.Mode.TheVariants.{List as Listing, Method as Testing}
use Rattle.kr_mean.specs.Program.{Program}
use Rattle.kr_mean.specs.Problem.{Problem, ClassDomain, Domain, Spotted}
use Rattle.kr_fin.specs.declared.document.ArrayBound.{ArrayBound}
use Rattle.kr_fin.specs.declared.document.Count.{Count}
use Rattle.kr_fin.specs.declared.document.FinDoc.{FinDoc}
use Rattle.kr_fin.specs.declared.document.NamedDomain.{NamedDomain}
use Rattle.kr_fin.specs.declared.document.Item.{Item}
use Rattle.kr_fin.specs.declared.document.Item.TheVariants.{Number, Range, Truth, Name}
use Rattle.kr_space_meaning.proofs.Each.{each_weaker}
use Rattle.kr_space_meaning.specs.Names.{Meant, NoReference, class_meant, class_of, meant}
use Rattle.kr_space_meaning.specs.Bounds.{Setting, array_class_domain, array_spots, domains_of, elements_key, field_key, field_spots, field_values, given, item_values, lengths_in, lengths_of, meant_values, object_domain, parameter_key, parameter_values, problem_in, root_domain, root_number, root_of, tested_parameters, values_given, values_of, values_with, width_for}
use Rattle.kr_space_meaning.specs.Keys.{field_type, instance_alone, method_at, parameter_type, parameters_of}

-- the document as one of version 2 that has these object domains
abbrev pub second : List Count → FinDoc → FinDoc
second cs d = record {
  version = 2;
  root = d.root;
  fuel = d.fuel;
  objects = cs;
  arrays = d.arrays;
  fields = d.fields;
  params = d.params;
}

pub map_same : {A B : Type 0} (f g : A → B) (xs : List A) → AllByRecursion (λ x. f x ≡ g x) xs → map f xs ≡ map g xs
map_same f g [] h = refl
map_same f g (x ∷ xs) h = ap (λ y. y ∷ map f xs) h.0 ∙ ap (λ ys. g x ∷ ys) (map_same f g xs h.1)

pub flat_same : {A B : Type 0} (f g : A → List B) (xs : List A) → AllByRecursion (λ x. f x ≡ g x) xs → flat_map f xs ≡ flat_map g xs
flat_same f g [] h = refl
flat_same f g (x ∷ xs) h = ap (λ ys. ys ++ flat_map f xs) h.0 ∙ ap (λ ys. g x ++ ys) (flat_same f g xs h.1)

pub each_is : {A : Type 0} (P : A → Type 0) (xs : List A) → ((x : A) → P x) → AllByRecursion P xs
each_is P [] f = tt
each_is P (x ∷ xs) f = (f x, each_is P xs f)

-- a name stands for objects of the same class
abbrev pub SameName : Table → List Count → FinDoc → List ℕ → Type 0
SameName table cs d n = class_of table.headings (second cs d) n ≡ class_of table.headings d n

abbrev pub SameItem : Table → List Count → FinDoc → Item → Type 0
SameItem table cs d (Name n) = SameName table cs d n
SameItem table cs d (Number z) = Unit {0}
SameItem table cs d (Range from to) = Unit {0}
SameItem table cs d (Truth b) = Unit {0}

abbrev pub SameItems : Table → List Count → FinDoc → List Item → Type 0
SameItems table cs d items = AllByRecursion (SameItem table cs d) items

-- the names of a document do, and these array types are of those that it bounds
pub record AreSame (table : Table) (cs : List Count) (d : FinDoc) (arrays : List (JavaType × ArrayBound)) : Type 0 where
  pub root : SameName table cs d d.root
  pub fields : AllByRecursion (λ x. SameItems table cs d x.domain) d.fields
  pub params : AllByRecursion (λ x. SameItems table cs d x.domain) d.params
  pub bounds : AllByRecursion (λ b. SameItems table cs d b.lengths) d.arrays
  pub bounded : AllByRecursion (λ a. SameItems table cs d a.1.lengths) arrays

module _ (table : Table) (types : List JavaType) (objects : List (ℕ × Count)) (arrays : List (JavaType × ArrayBound)) (cs : List Count) (d : FinDoc) where
  abbrev pub posed : FinDoc → Setting
  posed document = record { table = table; types = types; objects = objects; arrays = arrays; document = document }

  abbrev pub old : Setting
  old = posed d

  abbrev pub new : Setting
  new = posed (second cs d)

  -- ---- names and values

  pub meant_same : (n : List ℕ) → SameName table cs d n → meant table.headings (second cs d) n ≡ meant table.headings d n
  unfolding meant
  meant_same n h = ap (λ (o : Option ℕ). if bytes_eq n (codes "null") then NoReference else class_meant table.headings n o) h

  item_same : (w : Width) (i : Item) → SameItem table cs d i → item_values new w i ≡ item_values old w i
  item_same w (Name n) h = ap (λ (m : Meant). meant_values old n m) (meant_same n h)
  item_same w (Number z) h = refl
  item_same w (Range from to) h = refl
  item_same w (Truth b) h = refl

  with_same : (w : Width) (items : List Item) → SameItems table cs d items → values_with new w items ≡ values_with old w items
  with_same w items h = flat_same (item_values new w) (item_values old w) items (each_weaker (SameItem table cs d) (λ i. item_values new w i ≡ item_values old w i) items (item_same w) h)

  pub values_same : (t : Option JavaType) (items : List Item) → SameItems table cs d items → values_of new t items ≡ values_of old t items
  values_same t items h = with_same (width_for t) items h

  pub lengths_same : (items : List Item) → SameItems table cs d items → lengths_of new items ≡ lengths_of old items
  lengths_same items h = ap lengths_in (with_same Bits32 items h)

  given_same : (ds : List NamedDomain) (key : List ℕ) → AllByRecursion (λ x. SameItems table cs d x.domain) ds → SameItems table cs d (unwrap_or (given ds key) [])
  given_same [] key h = tt
  given_same (x ∷ ds) key h = go (bytes_eq x.key key) (given_same ds key h.1)
    where
      go : (b : Bool) → SameItems table cs d (unwrap_or (given ds key) []) → SameItems table cs d (unwrap_or (if b then Some x.domain else given ds key) [])
      go true rest = h.0
      go false rest = rest

  given_values : (asked : List ℕ → Option JavaType) (ds : List NamedDomain) (key : List ℕ) → AllByRecursion (λ x. SameItems table cs d x.domain) ds → values_given new asked ds key ≡ values_given old asked ds key
  given_values asked ds key h = values_same (asked key) (unwrap_or (given ds key) []) (given_same ds key h)

  module _ (same : AreSame table cs d arrays) where
    pub root_same : root_of new ≡ root_of old
    root_same = same.root

    fields_same : (key : List ℕ) → field_values new key ≡ field_values old key
    fields_same key = given_values (field_type table) d.fields key same.fields

    parameters_same : (key : List ℕ) → parameter_values new key ≡ parameter_values old key
    parameters_same key =
        ap (λ (r : Option ℕ). values_given new (parameter_type table r) d.params key) root_same
        ∙ given_values (parameter_type table (root_of old)) d.params key same.params

    -- ---- domains

    spots_same : (k : ℕ) (fs : List Field) → field_spots new k fs ≡ field_spots old k fs
    spots_same k [] = refl
    spots_same k (f ∷ fs) =
        ap (λ (x : Domain). record { spot = FieldSpot k; domain = x } ∷ field_spots new (k + 1) fs) (fields_same (field_key table f))
        ∙ ap (λ (ss : List Spotted). record { spot = FieldSpot k; domain = field_values old (field_key table f) } ∷ ss) (spots_same (k + 1) fs)

    object_same : (o : ℕ × Count) → object_domain new o ≡ object_domain old o
    object_same o = ap (λ (ss : List Spotted). record { name = o.1.name; class = Object o.0; count = o.1.count; spots = ss }) (spots_same 0 (fields_of table o.0))

    array_same : (a : JavaType × ArrayBound) → SameItems table cs d a.1.lengths → array_class_domain new a ≡ array_class_domain old a
    array_same a h =
        let made : List Spotted → ClassDomain = λ ss. record { name = a.1.name; class = Array (unwrap_or (array_number types a.0) 0); count = a.1.count; spots = ss } in
        ap (λ (ls : Domain). made (array_spots ls (field_values new (elements_key a.1.name)))) (lengths_same a.1.lengths h)
        ∙ ap (λ (es : Domain). made (array_spots (lengths_of old a.1.lengths) es)) (fields_same (elements_key a.1.name))

    pub domains_same : domains_of new ≡ domains_of old
    domains_same =
        ap (λ (xs : List ClassDomain). xs ++ map (array_class_domain new) arrays) (map_same (object_domain new) (object_domain old) objects (each_is (λ o. object_domain new o ≡ object_domain old o) objects object_same))
        ∙ ap (λ (ys : List ClassDomain). map (object_domain old) objects ++ ys)
        (map_same (array_class_domain new) (array_class_domain old) arrays (each_weaker (λ a. SameItems table cs d a.1.lengths) (λ a. array_class_domain new a ≡ array_class_domain old a) arrays array_same same.bounded))

    root_domain_same : root_domain new ≡ root_domain old
    unfolding root_domain
    root_domain_same =
        ap (λ (r : Option ℕ). unwrap_or (root_number new r) (length (domains_of new))) root_same
        ∙ ap (λ (xs : List ClassDomain). unwrap_or (root_number old (root_of old)) (length xs)) domains_same

    pub tested_same : (mode : Mode) → tested_parameters new mode ≡ tested_parameters old mode
    tested_same Listing = refl
    tested_same (Testing name) = ap (λ (r : Option ℕ). parameters_of (instance_alone (method_at table r name))) root_same

    of_parameters : (mode : Mode) → map (λ p. parameter_values new (parameter_key mode p)) (tested_parameters new mode) ≡ map (λ p. parameter_values old (parameter_key mode p)) (tested_parameters old mode)
    of_parameters mode =
        ap (λ (ps : List Parameter). map (λ p. parameter_values new (parameter_key mode p)) ps) (tested_same mode)
        ∙ map_same (λ p. parameter_values new (parameter_key mode p)) (λ p. parameter_values old (parameter_key mode p)) (tested_parameters old mode)
        (each_is (λ p. parameter_values new (parameter_key mode p) ≡ parameter_values old (parameter_key mode p)) (tested_parameters old mode) (λ p. parameters_same (parameter_key mode p)))

    -- ---- the problem

    pub problem_same : (program : Program) (mode : Mode) → problem_in program new mode ≡ problem_in program old mode
    unfolding problem_in
    problem_same program mode =
        let made : ℕ → List Domain → List ClassDomain → Problem = λ root parameters domains. record { program = program; root = root; mode = mode; parameters = parameters; fuel = d.fuel; domains = domains } in
        ap (λ (r : ℕ). made r (map (λ p. parameter_values new (parameter_key mode p)) (tested_parameters new mode)) (domains_of new)) root_domain_same
        ∙ (ap (λ (ps : List Domain). made (root_domain old) ps (domains_of new)) (of_parameters mode)
        ∙ ap (λ (ds : List ClassDomain). made (root_domain old) (map (λ p. parameter_values old (parameter_key mode p)) (tested_parameters old mode)) ds) domains_same)
