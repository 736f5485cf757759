-- No object domain and no array type of a document has more than 64 objects, and no object domain's name has a line feed where its
-- class's has none.
use Rattle.std.proofs.Common.{◌≡◌, ℕ, ◌≤◌, ℤ, Bool, true, false, not, ◌&&◌, cond, nat_le, nat_lt, List, [], ◌∷◌, ◌++◌, codes, inl, inr, ◌⊎◌, Option, Some, None, Ok, Err, refl, subst, arith}
use Rattle.std.specs.Prelude.{pos, negsuc, bytes_eq, option_and_then, if◌then◌else◌}
use Rattle.std.specs.List.{AllByRecursion}
use Rattle.std.proofs.lemmas.Bool.{and_parts, leb-true}
use Rattle.toml.specs.Data.{Data, Members, no_members, member, get_member, as_integer}
use Rattle.kr_fin.specs.declared.document.Count.{Count}
use Rattle.kr_fin.specs.declared.document.FinDoc.{FinDoc}
use Rattle.kr_classes_table.specs.Table.{Heading, number_of as class_number}
use Rattle.kr_fin.specs.declared.shapes.Section.{Section}
use Rattle.kr_fin.specs.declared.shapes.Section.TheVariants.{Objects, Domains, Arrays, Fields, Params}
use Rattle.kr_fin.specs.declared.shapes.Shape.TheVariants.{Document}
use Rattle.kr_fin.specs.declared.refusal.FinRule.TheVariants.{TooLong, WrongKind}
use Rattle.kr_fin.specs.Document as documents
use Rattle.kr_fin.specs.Document.{bounds_of, counts_of, document_of, magnitude, members_of, number_of, object_domains_of, objects_of, table_of}
use Rattle.kr_fin.specs.Identifiers.{is_identifier}
use Rattle.kr_fin.specs.Version.{is_second, objects_section}
use Rattle.kr_fin.specs.Faults.{entries, faults_in, fuel, named_domain, root, section, unknown_keys, version}
use Rattle.kr_fin.specs.Meaning.{document_in, is_short, meaning, of_table, table_in, unless}
use Rattle.kr_fin.specs.Order.{Fault, broken, least}
use Rattle.kr_fin.specs.Shapes.{counts, have, is_domain_name, item_of, name_of}
use Rattle.kr_space_meaning.specs.Bounds.{classed, declared, declared_by}
use Rattle.kr_space_meaning.proofs.Each.{each_of_both}
use Rattle.kr_space_meaning.proofs.Sections.{table_entries, unbroken_whole}

-- the name is the class's, or an identifier
abbrev pub IsNamed : Count → Type 0
IsNamed c = (c.name ≡ c.class) ⊎ (is_identifier c.name ≡ true)

-- the numbers of objects in a document, and their names
pub record HasFew (document : FinDoc) : Type 0 where
  pub objects : AllByRecursion (λ c. c.count ≤ 64) document.objects
  pub arrays : AllByRecursion (λ b. b.count ≤ 64) document.arrays
  pub names : AllByRecursion IsNamed document.objects

had_few : (z : ℤ) → have counts z ≡ true → magnitude z ≤ 64
had_few (negsuc n) h = omega arith
had_few (pos n) h = leb-true n 64 (and_parts (nat_le 0 n) (nat_le n 64) h).1

within_few : (o : Option ℤ) → documents.within counts o ≤ 64
within_few None = omega arith
within_few (Some z) = go (have counts z) refl
  where
    go : (b : Bool) → have counts z ≡ b → (if b then magnitude z else 0) ≤ 64
    go true is = had_few z is
    go false is = omega arith

number_few : (d : Option Data) → number_of counts d ≤ 64
number_few d = within_few (option_and_then as_integer d)

counts_few : (ms : Members) → AllByRecursion (λ c. c.count ≤ 64) (counts_of ms)
counts_few no_members = tt
counts_few (member key d rest) = (number_few (Some d), counts_few rest)

domains_few : (ms : Members) → AllByRecursion (λ c. c.count ≤ 64) (object_domains_of ms)
domains_few no_members = tt
domains_few (member key d rest) = (number_few (get_member (codes "count") (members_of (Some d))), domains_few rest)

objects_few : (s : Section) (ms : Members) → AllByRecursion (λ c. c.count ≤ 64) (objects_of s ms)
objects_few Objects ms = counts_few ms
objects_few Domains ms = domains_few ms
objects_few Arrays ms = counts_few ms
objects_few Fields ms = counts_few ms
objects_few Params ms = counts_few ms

-- ---- names

counts_named : (ms : Members) → AllByRecursion IsNamed (counts_of ms)
counts_named no_members = tt
counts_named (member key d rest) = (inl refl, counts_named rest)

both_empty : (xs ys : List Fault) → xs ++ ys ≡ [] → (xs ≡ []) × (ys ≡ [])
both_empty [] ys e = (refl, e)
both_empty (x ∷ xs) ys e = absurd (cc (e))

domain_name : (key at : List ℕ) → (if is_domain_name key then [] else broken WrongKind at) ≡ [] → is_identifier key ≡ true
domain_name key at e = go (is_identifier key) (not (bytes_eq key (codes "null"))) e
  where
    go : (a b : Bool) → (if a && b then [] else broken WrongKind at) ≡ [] → a ≡ true
    go true b e = refl
    go false b e = absurd (cc (e))

domains_named : (ms : Members) → entries Domains ms ≡ [] → AllByRecursion IsNamed (object_domains_of ms)
domains_named no_members e = tt
domains_named (member key d rest) e =
    let parts = both_empty (named_domain key (item_of Domains key) d) (entries Domains rest) e in
    let name = both_empty (if is_domain_name key then [] else broken WrongKind (item_of Domains key)) _ parts.0 in
    (inr (domain_name key (item_of Domains key) name.0), domains_named rest parts.1)

objects_named : (b : Bool) (ms : Members) → section (if b then Domains else Objects) ms ≡ [] → AllByRecursion IsNamed (objects_of (if b then Domains else Objects) (table_of (if b then Domains else Objects) ms))
objects_named true ms e = domains_named (table_of Domains ms) (table_entries Domains (get_member (name_of Domains) ms) e)
objects_named false ms e = counts_named (table_of Objects ms)

bounds_few : (ms : Members) → AllByRecursion (λ b. b.count ≤ 64) (bounds_of ms)
bounds_few no_members = tt
bounds_few (member key d rest) = (number_few (get_member (codes "count") (members_of (Some d))), bounds_few rest)

of_members : (ms : Members) → faults_in ms ≡ [] → HasFew (document_of ms)
unfolding document_of faults_in
of_members ms e =
    let e1 = (both_empty (unknown_keys Document (λ key. key) ms) _ e).1 in
    let e2 = (both_empty (version ms) _ e1).1 in
    let e3 = (both_empty (root ms) _ e2).1 in
    let e4 = (both_empty (fuel ms) _ e3).1 in
    let own = (both_empty (section (objects_section ms) ms) _ e4).0 in
    record {
      objects = objects_few (objects_section ms) (table_of (objects_section ms) ms);
      arrays = bounds_few (table_of Arrays ms);
      names = objects_named (is_second ms) ms own;
    }

judged_few : (ms : Members) (document : FinDoc) → document_in ms ≡ Ok document → HasFew document
unfolding document_in
judged_few ms document e = go (least (faults_in ms)) refl e
  where
    go : (o : Option Fault) → least (faults_in ms) ≡ o → unless o (document_of ms) ≡ Ok document → HasFew document
    go None n e = let same : document_of ms ≡ document = cc (e) in subst HasFew same (of_members ms (unbroken_whole (faults_in ms) n))
    go (Some f) n e = absurd (cc (e))

pub read_few : (bytes : List ℕ) (document : FinDoc) → meaning bytes ≡ Ok document → HasFew document
unfolding meaning
read_few bytes document e = short (is_short bytes) e
  where
    tabled : (o : Option Members) → of_table o ≡ Ok document → HasFew document
    tabled None e = absurd (cc (e))
    tabled (Some ms) e = judged_few ms document e

    short : (b : Bool) → cond b (of_table (table_in bytes)) (Err (record { rule = TooLong; item = codes "size" })) ≡ Ok document → HasFew document
    short true e = tabled (table_in bytes) e
    short false e = absurd (cc (e))

-- ---- object domains

pub of_declared : (P : Count → Type 0) (Q : ℕ × Count → Type 0) (hs : List Heading) (cs : List Count) → ((c : Count) (k : ℕ) → class_number hs c.class ≡ Some k → P c → Q (k, c)) → AllByRecursion P cs → AllByRecursion Q (declared hs cs)
of_declared P Q hs [] f h = tt
of_declared P Q hs (c ∷ cs) f h = each_of_both Q (declared_by hs c) (declared hs cs) (counted (nat_lt 0 c.count)) (of_declared P Q hs cs f h.1)
  where
    one : (o : Option ℕ) → class_number hs c.class ≡ o → AllByRecursion Q (classed o c)
    one None is = tt
    one (Some k) is = (f c k is h.0, tt)

    counted : (b : Bool) → AllByRecursion Q (if b then classed (class_number hs c.class) c else [])
    counted true = one (class_number hs c.class) refl
    counted false = tt
