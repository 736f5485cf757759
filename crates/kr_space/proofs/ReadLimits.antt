-- The numbers of a document that was read are within their limits.
use Rattle.std.proofs.Common.{◌≡◌, ℕ, ℤ, Bool, true, false, cond, List, [], ◌++◌, codes, Option, Some, None, Ok, Err, All, refl, sym, subst, ◌∙◌}
use Rattle.std.specs.Prelude.{IsTrue}
use Rattle.std.specs.List.{AllByRecursion}
use Rattle.toml.specs.Data.{Data, string, integer, float, boolean, datetime, array, table, Members, no_members, member, get_member, as_table}
use Rattle.kr_fin.specs.declared.refusal.FinRule.TheVariants.{TooLong}
use Rattle.kr_fin.specs.declared.document.FinDoc.{FinDoc}
use Rattle.kr_fin.specs.declared.document.Item.{Item}
use Rattle.kr_fin.specs.declared.document.Item.TheVariants as items
use Rattle.kr_fin.specs.declared.shapes.Purpose.{Purpose}
use Rattle.kr_fin.specs.declared.shapes.Purpose.TheVariants.{Lengths, Slot}
use Rattle.kr_fin.specs.declared.shapes.Section.TheVariants.{Arrays, Fields, Params}
use Rattle.kr_fin.specs.declared.shapes.Shape.TheVariants.{Document, Range, Array}
use Rattle.kr_fin.specs.Document.{bound_of, bounds_of, document_of, domain_of, domains_of, members_of, table_of}
use Rattle.kr_fin.specs.Faults.{bound, domain, entries, faults_in, fuel, keyed, of_kind, root, section, unknown_keys, version}
use Rattle.kr_fin.specs.Meaning.{is_short, document_in, meaning, of_table, table_in, unless}
use Rattle.kr_fin.specs.Order.{Fault, least}
use Rattle.kr_fin.specs.Shapes.{have, item_of as item_at, limits_of, name_of}
use Rattle.kr_fin.specs.Version.{objects_section}
use Rattle.kr_space_meaning.specs.Limits.{AreLengths, IsSmall, IsWithinLimits}
use Rattle.kr_space_meaning.proofs.Each.{each_at, each_weaker}
use Rattle.kr_space_meaning.proofs.Sections.{AreHeld, domain_each, required_each, table_entries, unbroken_whole}
use Rattle.kr_base.proofs.ListLemmas.{append_is_nil}

all_of : {A : Type 0} (P : A → Type 0) (xs : List A) → AllByRecursion P xs → All P xs
all_of P xs h = λ k d l. each_at P xs k d h l

-- a property of the entries of a domain, by its purpose
abbrev Holds : Purpose → Item → Type 0
Holds Slot i = IsSmall i
Holds Lengths i = AreLengths i

abbrev Each : Purpose → List Item → Type 0
Each purpose is = AllByRecursion (Holds purpose) is

number_holds : (purpose : Purpose) (z : ℤ) → IsTrue (have (limits_of purpose) z) → Holds purpose (items.Number z)
number_holds Slot z h = h
number_holds Lengths z h = h

range_holds : (purpose : Purpose) (from to : ℤ) → IsTrue (have (limits_of purpose) from) → IsTrue (have (limits_of purpose) to) → Holds purpose (items.Range from to)
range_holds Slot from to h k = (h, k)
range_holds Lengths from to h k = (h, k)

held : AreHeld Holds
held = record { number = number_holds; range = range_holds; truth = λ b. tt; name = λ s. tt }

bound_each : (at : List ℕ) (key : List ℕ) (ms : Members) → bound at ms ≡ [] → Each Lengths (bound_of key ms).lengths
bound_each at key ms e = required_each Holds held at (get_member (codes "lengths") ms) (append_is_nil _ _ (append_is_nil (unknown_keys Array (λ k. at) ms) _ e).1).1

-- ---- the tables

domains_each : (at : List ℕ → List ℕ) (faults : List ℕ → List ℕ → Data → List Fault) → ((key : List ℕ) (d : Data) → faults key (at key) d ≡ [] → Each Slot (domain_of (Some d))) → (all : Members → List Fault)
    → ((key : List ℕ) (d : Data) (rest : Members) → all (member key d rest) ≡ faults key (at key) d ++ all rest) → (ms : Members) → all ms ≡ [] → AllByRecursion (λ d. Each Slot d.domain) (domains_of ms)
domains_each at faults one all step no_members e = tt
domains_each at faults one all step (member key d rest) e =
    let parts = append_is_nil (faults key (at key) d) (all rest) (sym (step key d rest) ∙ e) in
    (one key d parts.0, domains_each at faults one all step rest parts.1)

keyed_each : (key at : List ℕ) (d : Data) → keyed key at d ≡ [] → Each Slot (domain_of (Some d))
keyed_each key at d e = domain_each Holds held Slot at d (append_is_nil _ _ e).1

entry_bound : (at key : List ℕ) (d : Data) → of_kind (bound at) at (as_table d) ≡ [] → Each Lengths (bound_of key (members_of (Some d))).lengths
entry_bound at key (table ms) e = bound_each at key ms e
entry_bound at key (integer z) e = absurd (cc (e))
entry_bound at key (string s) e = absurd (cc (e))
entry_bound at key (float x) e = absurd (cc (e))
entry_bound at key (boolean b) e = absurd (cc (e))
entry_bound at key (datetime dt) e = absurd (cc (e))
entry_bound at key (array ds) e = absurd (cc (e))

bounds_each : (ms : Members) → entries Arrays ms ≡ [] → AllByRecursion (λ b. Each Lengths b.lengths) (bounds_of ms)
bounds_each no_members e = tt
bounds_each (member key d rest) e =
    let parts = append_is_nil _ (entries Arrays rest) e in
    (entry_bound (item_at Arrays key) key d parts.0, bounds_each rest parts.1)

fields_each : (ms : Members) → entries Fields ms ≡ [] → AllByRecursion (λ d. Each Slot d.domain) (domains_of ms)
fields_each ms e = domains_each (item_at Fields) keyed (λ key d h. keyed_each key (item_at Fields key) d h) (entries Fields) (λ key d rest. refl) ms e

params_each : (ms : Members) → entries Params ms ≡ [] → AllByRecursion (λ d. Each Slot d.domain) (domains_of ms)
params_each ms e = domains_each (item_at Params) keyed (λ key d h. keyed_each key (item_at Params key) d h) (entries Params) (λ key d rest. refl) ms e

of_members : (ms : Members) → faults_in ms ≡ [] → IsWithinLimits (document_of ms)
unfolding faults_in document_of
of_members ms e =
    let e1 = (append_is_nil (unknown_keys Document (λ key. key) ms) _ e).1 in
    let ev = (append_is_nil (version ms) _ e1).1 in
    let e2 = (append_is_nil (root ms) _ ev).1 in
    let e3 = (append_is_nil (fuel ms) _ e2).1 in
    let e4 = (append_is_nil (section (objects_section ms) ms) _ e3).1 in
    let arrays = append_is_nil (section Arrays ms) (section Fields ms ++ section Params ms) e4 in
    let rest = append_is_nil (section Fields ms) (section Params ms) arrays.1 in
    record {
      fields = all_of _ _ (each_weaker _ (λ d. All IsSmall d.domain) _ (λ d h. all_of IsSmall d.domain h) (fields_each (table_of Fields ms) (table_entries Fields (get_member (name_of Fields) ms) rest.0)));
      params = all_of _ _ (each_weaker _ (λ d. All IsSmall d.domain) _ (λ d h. all_of IsSmall d.domain h) (params_each (table_of Params ms) (table_entries Params (get_member (name_of Params) ms) rest.1)));
      lengths = all_of _ _ (each_weaker _ (λ b. All AreLengths b.lengths) _ (λ b h. all_of AreLengths b.lengths h) (bounds_each (table_of Arrays ms) (table_entries Arrays (get_member (name_of Arrays) ms) arrays.0)));
    }

judged_limits : (ms : Members) (document : FinDoc) → document_in ms ≡ Ok document → IsWithinLimits document
unfolding document_in
judged_limits ms document e = go (least (faults_in ms)) refl e
  where
    go : (o : Option Fault) → least (faults_in ms) ≡ o → unless o (document_of ms) ≡ Ok document → IsWithinLimits document
    go None n e = let same : document_of ms ≡ document = cc (e) in subst IsWithinLimits same (of_members ms (unbroken_whole (faults_in ms) n))
    go (Some f) n e = absurd (cc (e))

pub read_limits : (bytes : List ℕ) (document : FinDoc) → meaning bytes ≡ Ok document → IsWithinLimits document
unfolding meaning
read_limits bytes document e = short (is_short bytes) e
  where
    tabled : (o : Option Members) → of_table o ≡ Ok document → IsWithinLimits document
    tabled None e = absurd (cc (e))
    tabled (Some ms) e = judged_limits ms document e

    short : (b : Bool) → cond b (of_table (table_in bytes)) (Err (record { rule = TooLong; item = codes "size" })) ≡ Ok document → IsWithinLimits document
    short true e = tabled (table_in bytes) e
    short false e = absurd (cc (e))
