-- What is written of a document is read as the document.
use Rattle.std.proofs.Common.{◌≡◌, ◌≤◌, arith, nat_le, ℕ, ℤ, pos, Bool, true, false, ◌==◌, ◌++◌, cond, List, [], ◌∷◌, codes, Some, Ok, refl, sym, ap, ◌∙◌}
use Rattle.std.specs.Prelude.{if◌then◌else◌}
use Rattle.std.specs.List.{AllByRecursion}
use Rattle.std.proofs.lemmas.Bool.{and_parts, leb-true}
use Rattle.std.proofs.lemmas.Bool.Decides.{nat_tests}
use Rattle.toml.specs.Data.{string, integer, table, Members, no_members, member}
use Rattle.kr_fin.specs.declared.document.ArrayBound.{ArrayBound}
use Rattle.kr_fin.specs.declared.document.Count.{Count}
use Rattle.kr_fin.specs.declared.document.FinDoc.{FinDoc}
use Rattle.kr_fin.specs.declared.document.NamedDomain.{NamedDomain}
use Rattle.kr_fin.specs.declared.document.Item.{Item}
use Rattle.kr_fin.specs.declared.document.Item.TheVariants.{Number, Range, Truth, Name}
use Rattle.kr_fin.specs.declared.refusal.FinRule.TheVariants.{OutOfLimit, WrongKind}
use Rattle.kr_fin.specs.declared.shapes.Limits.{Limits}
use Rattle.kr_fin.specs.declared.shapes.Purpose.{Purpose}
use Rattle.kr_fin.specs.declared.shapes.Purpose.TheVariants.{Lengths, Slot}
use Rattle.kr_fin.specs.declared.shapes.Section.{Section}
use Rattle.kr_fin.specs.declared.shapes.Section.TheVariants.{Objects, Domains, Arrays, Fields, Params}
use Rattle.kr_fin.specs.Document as documents
use Rattle.kr_fin.specs.Document.{bounds_of, counts_of, document_of, domains_of, item_of, items_of, number_of, object_domains_of, objects_of}
use Rattle.kr_fin.specs.Faults as faults
use Rattle.kr_fin.specs.Faults.{domain, entries, faults_in, keyed, named_domain, number, section, value, values}
use Rattle.kr_fin.specs.Meaning.{document_in, unless}
use Rattle.kr_fin.specs.Order.{Fault, broken, least}
use Rattle.kr_fin.specs.Shapes.{counts, fuels, have, item_of as item_at, limits_of, versions}
use Rattle.kr_fin.specs.Version.{is_second}
use Rattle.kr_fin_upgrade.specs.Documents.{IsBound, IsCount, IsDocument, IsDomain, IsItem, WrittenLaw}
use Rattle.kr_fin_upgrade.specs.Tables.{bound_data, bounds_table, count_data, counts_table, data_of, domain_data, domain_items, domains_table, table_of, two_keys}
use Rattle.kr_fin_upgrade.proofs.Ordered.{as_members, in_order}

-- ---- numbers

within_none : (limits : Limits) (at : List ℕ) (z : ℤ) → have limits z ≡ true → faults.within limits at z ≡ []
within_none limits at z h = ap (λ (b : Bool). cond b [] (broken OutOfLimit at)) h

number_is : (limits : Limits) (n : ℕ) → have limits (pos n) ≡ true → number_of limits (Some (integer (pos n))) ≡ n
number_is limits n h = ap (λ (b : Bool). cond b n 0) h

-- ---- domains

one_item : (i : Item) → item_of (data_of i) ≡ i ∷ []
one_item (Number z) = refl
one_item (Range from to) = refl
one_item (Truth b) = refl
one_item (Name n) = refl

all_items : (is : List Item) → items_of (domain_items is) ≡ is
all_items [] = refl
all_items (i ∷ is) = ap (λ (xs : List Item). xs ++ items_of (domain_items is)) (one_item i) ∙ ap (λ (xs : List Item). i ∷ xs) (all_items is)

item_sound : (purpose : Purpose) (at : List ℕ) (i : Item) → IsItem purpose i → value purpose at (data_of i) ≡ []
item_sound purpose at (Number z) h = within_none (limits_of purpose) at z h
item_sound purpose at (Range from to) h =
    ap (λ (xs : List Fault). xs ++ faults.within (limits_of purpose) at to) (within_none (limits_of purpose) at from h.0) ∙ within_none (limits_of purpose) at to h.1
item_sound Slot at (Truth b) h = refl
item_sound Slot at (Name n) h = refl
item_sound Lengths at (Truth b) h = absurd h
item_sound Lengths at (Name n) h = absurd h

items_sound : (purpose : Purpose) (at : List ℕ) (is : List Item) → AllByRecursion (IsItem purpose) is → values purpose at (domain_items is) ≡ []
items_sound purpose at [] h = refl
items_sound purpose at (i ∷ is) h =
    ap (λ (xs : List Fault). xs ++ values purpose at (domain_items is)) (item_sound purpose at i h.0) ∙ items_sound purpose at is h.1

-- ---- the tables of names

abbrev count_members : ℕ → List Count → Members
count_members v cs = as_members (λ c. c.name) (count_data v) cs

abbrev bound_members : List ArrayBound → Members
bound_members bs = as_members (λ b. b.name) bound_data bs

abbrev domain_members : List NamedDomain → Members
domain_members ds = as_members (λ d. d.key) (λ d. domain_data d.domain) ds

domains_read : (ds : List NamedDomain) → domains_of (domain_members ds) ≡ ds
domains_read [] = refl
domains_read (d ∷ ds) = ap (λ (is : List Item). record { key = d.key; domain = is } ∷ domains_of (domain_members ds)) (all_items d.domain) ∙ ap (λ (xs : List NamedDomain). d ∷ xs) (domains_read ds)

bounds_read : (bs : List ArrayBound) → AllByRecursion IsBound bs → bounds_of (bound_members bs) ≡ bs
bounds_read [] h = refl
bounds_read (b ∷ bs) h =
    ap (λ (n : ℕ). record { name = b.name; count = n; lengths = items_of (domain_items b.lengths) } ∷ bounds_of (bound_members bs)) (number_is counts b.count h.0.few)
    ∙ (ap (λ (is : List Item). record { name = b.name; count = b.count; lengths = is } ∷ bounds_of (bound_members bs)) (all_items b.lengths)
    ∙ ap (λ (xs : List ArrayBound). b ∷ xs) (bounds_read bs h.1))

-- version 1
counts_read : (v : ℕ) (cs : List Count) → (v == 2) ≡ false → AllByRecursion (IsCount false) cs → counts_of (count_members v cs) ≡ cs
counts_read v [] e h = refl
counts_read v (c ∷ cs) e h =
    ap (λ (b : Bool). record { name = c.name; class = c.name; count = number_of counts (Some (cond b (table (two_keys (codes "class") (string c.class) (codes "count") (integer (pos c.count)))) (integer (pos c.count)))) } ∷ counts_of (count_members v cs)) e
    ∙ (ap (λ (n : ℕ). record { name = c.name; class = c.name; count = n } ∷ counts_of (count_members v cs)) (number_is counts c.count h.0.few)
    ∙ (ap (λ (t : List ℕ). record { name = c.name; class = t; count = c.count } ∷ counts_of (count_members v cs)) (sym h.0.named)
    ∙ ap (λ (xs : List Count). c ∷ xs) (counts_read v cs e h.1)))

-- version 2
objects_read : (v : ℕ) (cs : List Count) → (v == 2) ≡ true → AllByRecursion (IsCount true) cs → object_domains_of (count_members v cs) ≡ cs
objects_read v [] e h = refl
objects_read v (c ∷ cs) e h =
    ap (λ (b : Bool). documents.object_domain_of c.name (documents.members_of (Some (cond b (table (two_keys (codes "class") (string c.class) (codes "count") (integer (pos c.count)))) (integer (pos c.count))))) ∷ object_domains_of (count_members v cs)) e
    ∙ (ap (λ (n : ℕ). record { name = c.name; class = c.class; count = n } ∷ object_domains_of (count_members v cs)) (number_is counts c.count h.0.few)
    ∙ ap (λ (xs : List Count). c ∷ xs) (objects_read v cs e h.1))

-- ---- no rule is broken

-- entries of a section, one after another
counts_sound : (v : ℕ) (cs : List Count) → (v == 2) ≡ false → AllByRecursion (IsCount false) cs → entries Objects (count_members v cs) ≡ []
counts_sound v [] e h = refl
counts_sound v (c ∷ cs) e h =
    ap (λ (b : Bool). number counts (item_at Objects c.name) (cond b (table (two_keys (codes "class") (string c.class) (codes "count") (integer (pos c.count)))) (integer (pos c.count))) ++ entries Objects (count_members v cs)) e
    ∙ (ap (λ (xs : List Fault). xs ++ entries Objects (count_members v cs)) (within_none counts (item_at Objects c.name) (pos c.count) h.0.few) ∙ counts_sound v cs e h.1)

objects_sound : (v : ℕ) (cs : List Count) → (v == 2) ≡ true → AllByRecursion (IsCount true) cs → entries Domains (count_members v cs) ≡ []
objects_sound v [] e h = refl
objects_sound v (c ∷ cs) e h =
    let at = item_at Domains c.name in
    ap (λ (b : Bool). named_domain c.name at (cond b (table (two_keys (codes "class") (string c.class) (codes "count") (integer (pos c.count)))) (integer (pos c.count))) ++ entries Domains (count_members v cs)) e
    ∙ (ap (λ (b : Bool). ((if b then [] else broken WrongKind at) ++ faults.within counts at (pos c.count)) ++ entries Domains (count_members v cs)) h.0.named
    ∙ (ap (λ (xs : List Fault). xs ++ entries Domains (count_members v cs)) (within_none counts at (pos c.count) h.0.few) ∙ objects_sound v cs e h.1))

bounds_sound : (bs : List ArrayBound) → AllByRecursion IsBound bs → entries Arrays (bound_members bs) ≡ []
bounds_sound [] h = refl
bounds_sound (b ∷ bs) h =
    let at = item_at Arrays b.name in
    ap (λ (xs : List Fault). (xs ++ values Lengths at (domain_items b.lengths)) ++ entries Arrays (bound_members bs)) (within_none counts at (pos b.count) h.0.few)
    ∙ (ap (λ (xs : List Fault). xs ++ entries Arrays (bound_members bs)) (items_sound Lengths at b.lengths h.0.lengths) ∙ bounds_sound bs h.1)

keyed_sound : (d : NamedDomain) (at : List ℕ) → IsDomain d → keyed d.key at (domain_data d.domain) ≡ []
keyed_sound d at h =
    ap (λ (b : Bool). (if b then [] else broken WrongKind at) ++ values Slot at (domain_items d.domain)) h.pair
    ∙ items_sound Slot at d.domain h.items

fields_sound : (ds : List NamedDomain) → AllByRecursion IsDomain ds → entries Fields (domain_members ds) ≡ []
fields_sound [] h = refl
fields_sound (d ∷ ds) h = ap (λ (xs : List Fault). xs ++ entries Fields (domain_members ds)) (keyed_sound d (item_at Fields d.key) h.0) ∙ fields_sound ds h.1

params_sound : (ds : List NamedDomain) → AllByRecursion IsDomain ds → entries Params (domain_members ds) ≡ []
params_sound [] h = refl
params_sound (d ∷ ds) h = ap (λ (xs : List Fault). xs ++ entries Params (domain_members ds)) (keyed_sound d (item_at Params d.key) h.0) ∙ params_sound ds h.1

-- ---- the whole

-- the table, with its lists as members
abbrev whole : FinDoc → Members → Members → Members → Members → Members
whole d objects arrays fields params =
    member (codes "arrays") (table arrays)
    (member (codes "fields") (table fields)
    (member (codes "fuel") (integer (pos d.fuel))
    (member (codes "objects") (table objects)
    (member (codes "params") (table params)
    (member (codes "root") (string d.root)
    (member (codes "version") (integer (pos d.version)) no_members))))))

table_is : (d : FinDoc) → table_of d ≡ whole d (counts_table d.version d.objects) (bounds_table d.arrays) (domains_table d.fields) (domains_table d.params)
unfolding table_of
table_is d = refl

table_whole : (d : FinDoc) → IsDocument d → table_of d ≡ whole d (count_members d.version d.objects) (bound_members d.arrays) (domain_members d.fields) (domain_members d.params)
table_whole d h =
    table_is d
    ∙ (ap (λ (ms : Members). whole d ms (bounds_table d.arrays) (domains_table d.fields) (domains_table d.params)) (in_order (λ (c : Count). c.name) (count_data d.version) d.objects h.order.objects)
    ∙ (ap (λ (ms : Members). whole d (count_members d.version d.objects) ms (domains_table d.fields) (domains_table d.params)) (in_order (λ (b : ArrayBound). b.name) bound_data d.arrays h.order.arrays)
    ∙ (ap (λ (ms : Members). whole d (count_members d.version d.objects) (bound_members d.arrays) ms (domains_table d.params)) (in_order (λ (x : NamedDomain). x.key) (λ x. domain_data x.domain) d.fields h.order.fields)
    ∙ ap (λ (ms : Members). whole d (count_members d.version d.objects) (bound_members d.arrays) (domain_members d.fields) ms) (in_order (λ (x : NamedDomain). x.key) (λ x. domain_data x.domain) d.params h.order.params))))

two_is : (v : ℕ) → (v == 2) ≡ true → 2 ≡ v
two_is v e = grind (arith, nat_tests)

one_is : (v : ℕ) → 1 ≤ v → v ≤ 2 → (v == 2) ≡ false → 1 ≡ v
one_is v a b e = grind (arith, nat_tests)

version_is : (v : ℕ) → have versions (pos v) ≡ true → (if v == 2 then 2 else 1) ≡ v
version_is v h = go (v == 2) refl
  where
    both : (nat_le 1 v ≡ true) × (nat_le v 2 ≡ true)
    both = and_parts (nat_le 1 v) (nat_le v 2) h

    go : (b : Bool) → (v == 2) ≡ b → (if b then 2 else 1) ≡ v
    go true e = two_is v e
    go false e = one_is v (leb-true 1 v both.0) (leb-true v 2 both.1) e

objects_both : (v : ℕ) (cs : List Count) → (b : Bool) → (v == 2) ≡ b → AllByRecursion (IsCount b) cs → objects_of (if b then Domains else Objects) (count_members v cs) ≡ cs
objects_both v cs true e h = objects_read v cs e h
objects_both v cs false e h = counts_read v cs e h

sound_both : (v : ℕ) (cs : List Count) → (b : Bool) → (v == 2) ≡ b → AllByRecursion (IsCount b) cs → entries (if b then Domains else Objects) (count_members v cs) ≡ []
sound_both v cs true e h = objects_sound v cs e h
sound_both v cs false e h = counts_sound v cs e h

faults_whole : (d : FinDoc) (objects arrays fields params : Members) → faults_in (whole d objects arrays fields params)
    ≡ faults.within versions (codes "version") (pos d.version) ++ (faults.within fuels (codes "fuel") (pos d.fuel)
    ++ (entries (if d.version == 2 then Domains else Objects) objects ++ (entries Arrays arrays ++ (entries Fields fields ++ entries Params params))))
unfolding faults_in is_second
faults_whole d objects arrays fields params = objects_at (d.version == 2) refl
  where
    rest : List Fault
    rest = entries Arrays arrays ++ (entries Fields fields ++ entries Params params)

    of_section : Section → List Fault
    of_section s = faults.within versions (codes "version") (pos d.version) ++ (faults.within fuels (codes "fuel") (pos d.fuel) ++ (section s (whole d objects arrays fields params) ++ rest))

    objects_at : (b : Bool) → (d.version == 2) ≡ b → of_section (if d.version == 2 then Domains else Objects)
        ≡ faults.within versions (codes "version") (pos d.version) ++ (faults.within fuels (codes "fuel") (pos d.fuel) ++ (entries (if d.version == 2 then Domains else Objects) objects ++ rest))
    objects_at true e = ap (λ (b : Bool). of_section (if b then Domains else Objects)) e ∙ sym (ap (λ (b : Bool). faults.within versions (codes "version") (pos d.version) ++ (faults.within fuels (codes "fuel") (pos d.fuel) ++ (entries (if b then Domains else Objects) objects ++ rest))) e)
    objects_at false e = ap (λ (b : Bool). of_section (if b then Domains else Objects)) e ∙ sym (ap (λ (b : Bool). faults.within versions (codes "version") (pos d.version) ++ (faults.within fuels (codes "fuel") (pos d.fuel) ++ (entries (if b then Domains else Objects) objects ++ rest))) e)

-- lists that are empty, one after another
nil_first : {A : Type 0} (xs ys : List A) → xs ≡ [] → ys ≡ [] → xs ++ ys ≡ []
nil_first xs ys a b = ap (λ (zs : List _). zs ++ ys) a ∙ b

no_faults : (d : FinDoc) → IsDocument d → faults_in (whole d (count_members d.version d.objects) (bound_members d.arrays) (domain_members d.fields) (domain_members d.params)) ≡ []
no_faults d h =
    faults_whole d (count_members d.version d.objects) (bound_members d.arrays) (domain_members d.fields) (domain_members d.params)
    ∙ nil_first _ _ (within_none versions (codes "version") (pos d.version) h.version)
    (nil_first _ _ (within_none fuels (codes "fuel") (pos d.fuel) h.fuel)
    (nil_first _ _ (sound_both d.version d.objects (d.version == 2) refl h.objects)
    (nil_first _ _ (bounds_sound d.arrays h.arrays)
    (nil_first _ _ (fields_sound d.fields h.fields) (params_sound d.params h.params)))))

-- the document of the table, by its parts
abbrev made : ℕ → List ℕ → ℕ → List Count → List ArrayBound → List NamedDomain → List NamedDomain → FinDoc
made version root fuel objects arrays fields params = record {
  version = version;
  root = root;
  fuel = fuel;
  objects = objects;
  arrays = arrays;
  fields = fields;
  params = params;
}

document_whole : (d : FinDoc) (objects arrays fields params : Members) → document_of (whole d objects arrays fields params)
    ≡ made (if d.version == 2 then 2 else 1) d.root (number_of fuels (Some (integer (pos d.fuel)))) (objects_of (if d.version == 2 then Domains else Objects) objects) (bounds_of arrays) (domains_of fields) (domains_of params)
unfolding document_of is_second
document_whole d objects arrays fields params = at (d.version == 2) refl
  where
    of_section : Section → FinDoc
    of_section s = made (if d.version == 2 then 2 else 1) d.root (number_of fuels (Some (integer (pos d.fuel)))) (objects_of s (documents.table_of s (whole d objects arrays fields params))) (bounds_of arrays) (domains_of fields) (domains_of params)

    in_section : Section → FinDoc
    in_section s = made (if d.version == 2 then 2 else 1) d.root (number_of fuels (Some (integer (pos d.fuel)))) (objects_of s objects) (bounds_of arrays) (domains_of fields) (domains_of params)

    at : (b : Bool) → (d.version == 2) ≡ b → of_section (if d.version == 2 then Domains else Objects) ≡ in_section (if d.version == 2 then Domains else Objects)
    at true e = ap (λ (b : Bool). of_section (if b then Domains else Objects)) e ∙ sym (ap (λ (b : Bool). in_section (if b then Domains else Objects)) e)
    at false e = ap (λ (b : Bool). of_section (if b then Domains else Objects)) e ∙ sym (ap (λ (b : Bool). in_section (if b then Domains else Objects)) e)

document_read : (d : FinDoc) → IsDocument d → document_of (whole d (count_members d.version d.objects) (bound_members d.arrays) (domain_members d.fields) (domain_members d.params)) ≡ d
document_read d h =
    document_whole d (count_members d.version d.objects) (bound_members d.arrays) (domain_members d.fields) (domain_members d.params)
    ∙ (ap (λ (v : ℕ). made v d.root (number_of fuels (Some (integer (pos d.fuel)))) (objects_of (if d.version == 2 then Domains else Objects) (count_members d.version d.objects)) (bounds_of (bound_members d.arrays)) (domains_of (domain_members d.fields)) (domains_of (domain_members d.params))) (version_is d.version h.version)
    ∙ (ap (λ (n : ℕ). made d.version d.root n (objects_of (if d.version == 2 then Domains else Objects) (count_members d.version d.objects)) (bounds_of (bound_members d.arrays)) (domains_of (domain_members d.fields)) (domains_of (domain_members d.params))) (number_is fuels d.fuel h.fuel)
    ∙ (ap (λ (cs : List Count). made d.version d.root d.fuel cs (bounds_of (bound_members d.arrays)) (domains_of (domain_members d.fields)) (domains_of (domain_members d.params))) (objects_both d.version d.objects (d.version == 2) refl h.objects)
    ∙ (ap (λ (bs : List ArrayBound). made d.version d.root d.fuel d.objects bs (domains_of (domain_members d.fields)) (domains_of (domain_members d.params))) (bounds_read d.arrays h.arrays)
    ∙ (ap (λ (ds : List NamedDomain). made d.version d.root d.fuel d.objects d.arrays ds (domains_of (domain_members d.params))) (domains_read d.fields)
    ∙ ap (λ (ds : List NamedDomain). made d.version d.root d.fuel d.objects d.arrays d.fields ds) (domains_read d.params))))))

pub written : WrittenLaw
unfolding document_in
written d h =
    let ms = whole d (count_members d.version d.objects) (bound_members d.arrays) (domain_members d.fields) (domain_members d.params) in
    ap document_in (table_whole d h)
    ∙ (ap (λ (fs : List Fault). unless (least fs) (document_of ms)) (no_faults d h) ∙ ap Ok (document_read d h))
