-- The keys of a document that was read are pairs.
use Rattle.std.proofs.Common.{◌≡◌, ℕ, Bool, true, false, cond, List, [], ◌++◌, codes, Option, Some, None, Ok, Err, refl, subst}
use Rattle.std.specs.List.{AllByRecursion}
use Rattle.toml.specs.Data.{Data, Members, no_members, member, get_member}
use Rattle.kr_fin.specs.declared.refusal.FinRule.TheVariants.{WrongKind, TooLong}
use Rattle.kr_fin.specs.declared.document.FinDoc.{FinDoc}
use Rattle.kr_fin.specs.declared.shapes.Purpose.TheVariants.{Slot}
use Rattle.kr_fin.specs.declared.shapes.Section.TheVariants.{Arrays, Fields, Params}
use Rattle.kr_fin.specs.declared.shapes.Shape.TheVariants.{Document}
use Rattle.kr_fin.specs.Document.{document_of, domains_of, table_of}
use Rattle.kr_fin.specs.Faults.{domain, entries, faults_in, fuel, keyed, root, section, unknown_keys, version}
use Rattle.kr_fin.specs.Meaning.{is_short, document_in, meaning, of_table, table_in, unless}
use Rattle.kr_fin.specs.Order.{Fault, broken, least}
use Rattle.kr_fin.specs.Shapes.{is_pair, item_of, name_of}
use Rattle.kr_fin.specs.Version.{objects_section}
use Rattle.kr_laws_never_stuck.specs.Keys.{HasPairs}
use Rattle.kr_space_meaning.proofs.Sections.{table_entries, unbroken_whole}
use Rattle.kr_base.proofs.ListLemmas.{append_is_nil}

pair : (key at : List ℕ) (d : Data) → keyed key at d ≡ [] → is_pair key ≡ true
pair key at d e = go (is_pair key) (append_is_nil (cond (is_pair key) [] (broken WrongKind at)) (domain Slot at d) e).0
  where
    go : (b : Bool) → cond b [] (broken WrongKind at) ≡ [] → b ≡ true
    go true e = refl
    go false e = absurd (cc (e))

fields_pairs : (ms : Members) → entries Fields ms ≡ [] → AllByRecursion (λ d. is_pair d.key ≡ true) (domains_of ms)
fields_pairs no_members e = tt
fields_pairs (member key d rest) e = let parts = append_is_nil (keyed key (item_of Fields key) d) (entries Fields rest) e in (pair key (item_of Fields key) d parts.0, fields_pairs rest parts.1)

params_pairs : (ms : Members) → entries Params ms ≡ [] → AllByRecursion (λ d. is_pair d.key ≡ true) (domains_of ms)
params_pairs no_members e = tt
params_pairs (member key d rest) e = let parts = append_is_nil (keyed key (item_of Params key) d) (entries Params rest) e in (pair key (item_of Params key) d parts.0, params_pairs rest parts.1)

of_members : (ms : Members) → faults_in ms ≡ [] → HasPairs (document_of ms)
unfolding faults_in document_of
of_members ms e =
    let e1 = (append_is_nil (unknown_keys Document (λ key. key) ms) _ e).1 in
    let ev = (append_is_nil (version ms) _ e1).1 in
    let e2 = (append_is_nil (root ms) _ ev).1 in
    let e3 = (append_is_nil (fuel ms) _ e2).1 in
    let e4 = (append_is_nil (section (objects_section ms) ms) _ e3).1 in
    let e5 = (append_is_nil (section Arrays ms) (section Fields ms ++ section Params ms) e4).1 in
    let rest = append_is_nil (section Fields ms) (section Params ms) e5 in
    record {
      fields = fields_pairs (table_of Fields ms) (table_entries Fields (get_member (name_of Fields) ms) rest.0);
      params = params_pairs (table_of Params ms) (table_entries Params (get_member (name_of Params) ms) rest.1);
    }

judged_pairs : (ms : Members) (document : FinDoc) → document_in ms ≡ Ok document → HasPairs document
unfolding document_in
judged_pairs ms document e = go (least (faults_in ms)) refl e
  where
    go : (o : Option Fault) → least (faults_in ms) ≡ o → unless o (document_of ms) ≡ Ok document → HasPairs document
    go None n e = let same : document_of ms ≡ document = cc (e) in subst HasPairs same (of_members ms (unbroken_whole (faults_in ms) n))
    go (Some f) n e = absurd (cc (e))

pub read_pairs : (bytes : List ℕ) (document : FinDoc) → meaning bytes ≡ Ok document → HasPairs document
unfolding meaning
read_pairs bytes document e = short (is_short bytes) e
  where
    tabled : (o : Option Members) → of_table o ≡ Ok document → HasPairs document
    tabled None e = absurd (cc (e))
    tabled (Some ms) e = judged_pairs ms document e

    short : (b : Bool) → cond b (of_table (table_in bytes)) (Err (record { rule = TooLong; item = codes "size" })) ≡ Ok document → HasPairs document
    short true e = tabled (table_in bytes) e
    short false e = absurd (cc (e))
