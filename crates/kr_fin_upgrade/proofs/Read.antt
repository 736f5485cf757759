-- A document that was read breaks no rule of its own.
use Rattle.std.proofs.Common.{◌≡◌, ℕ, ℤ, ◌==◌, Bool, true, false, List, [], ◌++◌, codes, Option, Some, None, Ok, pos, negsuc, refl, sym, ap, subst, ◌∙◌}
use Rattle.std.specs.Prelude.{option_and_then, if◌then◌else◌}
use Rattle.std.specs.List.{AllByRecursion}
use Rattle.toml.specs.Data.{Data, string, integer, float, boolean, datetime, array, table, Members, no_members, member, get_member, as_integer, as_table}
use Rattle.kr_base.proofs.ListLemmas.{append_is_nil}
use Rattle.kr_fin.specs.declared.document.Item.TheVariants as items
use Rattle.kr_fin.specs.declared.refusal.FinRule.TheVariants.{WrongKind}
use Rattle.kr_fin.specs.declared.shapes.Purpose.TheVariants.{Slot}
use Rattle.kr_fin.specs.declared.shapes.Section.TheVariants.{Objects, Domains, Arrays, Fields, Params}
use Rattle.kr_fin.specs.declared.shapes.Shape.TheVariants.{Document, Array}
use Rattle.kr_fin.specs.Ascending.{IsInOrder}
use Rattle.kr_fin.specs.Document as documents
use Rattle.kr_fin.specs.Document.{bound_of, bounds_of, counts_of, document_of, domain_of, domains_of, magnitude, members_of, number_of, object_domains_of, objects_of, table_of}
use Rattle.kr_fin.specs.Faults.{bound, domain, entries, faults_in, fuel, keyed, named_domain, number, of_kind, required, root, section, unknown_keys, version, within}
use Rattle.kr_fin.specs.Meaning.{document_in, unless}
use Rattle.kr_fin.specs.Order.{Fault, broken, least}
use Rattle.kr_fin.specs.Shapes.{counts, fuels, have, is_domain_name, is_pair, item_of as item_at, name_of, versions}
use Rattle.kr_fin.specs.Version.{is_second, objects_section}
use Rattle.kr_space_meaning.proofs.Sections.{AreHeld, domain_each, in_limits, required_each, table_entries, unbroken_whole}
use Rattle.kr_fin_upgrade.specs.Documents.{IsBound, IsCount, IsDocument, IsDomain, IsItem, ReadLaw}

-- ---- numbers

-- a count that is missing, or out of the limits, is 0
count_within : (o : Option ℤ) → have counts (pos (documents.within counts o)) ≡ true
count_within None = refl
count_within (Some z) = go (have counts z) refl
  where
    go : (b : Bool) → have counts z ≡ b → have counts (pos (if b then magnitude z else 0)) ≡ true
    go true is = natural z is
      where
        natural : (z : ℤ) → have counts z ≡ true → have counts (pos (magnitude z)) ≡ true
        natural (pos n) h = h
        natural (negsuc n) h = refl
    go false is = refl

counted : (o : Option Data) → have counts (pos (number_of counts o)) ≡ true
counted o = count_within (option_and_then as_integer o)

-- a whole number within the limits of the fuel is natural
fuel_natural : (z : ℤ) → have fuels z ≡ true → have fuels (pos (magnitude z)) ≡ true
fuel_natural (pos n) h = h
fuel_natural (negsuc n) h = absurd (cc (h))

fuel_is : (z : ℤ) → have fuels z ≡ true → have fuels (pos (number_of fuels (Some (integer z)))) ≡ true
fuel_is z h = ap (λ (b : Bool). have fuels (pos (if b then magnitude z else 0))) h ∙ fuel_natural z h

fuelled : (at : List ℕ) (o : Option Data) → required (number fuels at) at o ≡ [] → have fuels (pos (number_of fuels o)) ≡ true
fuelled at None e = absurd (cc (e))
fuelled at (Some (integer z)) e = fuel_is z (in_limits fuels at z e)
fuelled at (Some (string s)) e = absurd (cc (e))
fuelled at (Some (float x)) e = absurd (cc (e))
fuelled at (Some (boolean b)) e = absurd (cc (e))
fuelled at (Some (datetime dt)) e = absurd (cc (e))
fuelled at (Some (array ds)) e = absurd (cc (e))
fuelled at (Some (table ms)) e = absurd (cc (e))

-- ---- domains

held : AreHeld IsItem
held = record { number = λ purpose z h. h; range = λ purpose from to h k. (h, k); truth = λ b. tt; name = λ s. tt }

-- ---- entries

kept : (b : Bool) (at : List ℕ) (rest : List Fault) → (if b then [] else broken WrongKind at) ++ rest ≡ [] → b ≡ true
kept true at rest e = refl
kept false at rest e = absurd (cc (e))

bound_is : (key at : List ℕ) (ms : Members) → bound at ms ≡ [] → IsBound (bound_of key ms)
bound_is key at ms e = record {
  few = counted (get_member (codes "count") ms);
  lengths = required_each IsItem held at (get_member (codes "lengths") ms) (append_is_nil _ _ (append_is_nil (unknown_keys Array (λ k. at) ms) _ e).1).1;
}

entry_bound : (key at : List ℕ) (d : Data) → of_kind (bound at) at (as_table d) ≡ [] → IsBound (bound_of key (members_of (Some d)))
entry_bound key at (table ms) e = bound_is key at ms e
entry_bound key at (integer z) e = absurd (cc (e))
entry_bound key at (string s) e = absurd (cc (e))
entry_bound key at (float x) e = absurd (cc (e))
entry_bound key at (boolean b) e = absurd (cc (e))
entry_bound key at (datetime dt) e = absurd (cc (e))
entry_bound key at (array ds) e = absurd (cc (e))

bounds_are : (ms : Members) → entries Arrays ms ≡ [] → AllByRecursion IsBound (bounds_of ms)
bounds_are no_members e = tt
bounds_are (member key d rest) e =
    let parts = append_is_nil _ (entries Arrays rest) e in
    (entry_bound key (item_at Arrays key) d parts.0, bounds_are rest parts.1)

keyed_is : (key at : List ℕ) (d : Data) → keyed key at d ≡ [] → IsDomain (record { key = key; domain = domain_of (Some d) })
keyed_is key at d e = record {
  pair = kept (is_pair key) at (domain Slot at d) e;
  items = domain_each IsItem held Slot at d (append_is_nil (if is_pair key then [] else broken WrongKind at) (domain Slot at d) e).1;
}

fields_are : (ms : Members) → entries Fields ms ≡ [] → AllByRecursion IsDomain (domains_of ms)
fields_are no_members e = tt
fields_are (member key d rest) e =
    let parts = append_is_nil (keyed key (item_at Fields key) d) (entries Fields rest) e in
    (keyed_is key (item_at Fields key) d parts.0, fields_are rest parts.1)

params_are : (ms : Members) → entries Params ms ≡ [] → AllByRecursion IsDomain (domains_of ms)
params_are no_members e = tt
params_are (member key d rest) e =
    let parts = append_is_nil (keyed key (item_at Params key) d) (entries Params rest) e in
    (keyed_is key (item_at Params key) d parts.0, params_are rest parts.1)

-- in version 1 an object domain has its class's name
counts_are : (ms : Members) → AllByRecursion (IsCount false) (counts_of ms)
counts_are no_members = tt
counts_are (member key d rest) = (record { few = counted (Some d); named = refl }, counts_are rest)

domains_are : (ms : Members) → entries Domains ms ≡ [] → AllByRecursion (IsCount true) (object_domains_of ms)
domains_are no_members e = tt
domains_are (member key d rest) e =
    let parts = append_is_nil (named_domain key (item_at Domains key) d) (entries Domains rest) e in (
      record {
        few = counted (get_member (codes "count") (members_of (Some d)));
        named = kept (is_domain_name key) (item_at Domains key) _ parts.0;
      },
      domains_are rest parts.1,
    )

objects_are : (b : Bool) (ms : Members) → section (if b then Domains else Objects) ms ≡ []
    → AllByRecursion (IsCount ((if b then 2 else 1) == 2)) (objects_of (if b then Domains else Objects) (table_of (if b then Domains else Objects) ms))
objects_are true ms e = domains_are (table_of Domains ms) (table_entries Domains (get_member (name_of Domains) ms) e)
objects_are false ms e = counts_are (table_of Objects ms)

version_is : (b : Bool) → have versions (pos (if b then 2 else 1)) ≡ true
version_is true = refl
version_is false = refl

-- ---- the whole

of_members : (ms : Members) → faults_in ms ≡ [] → IsInOrder (document_of ms) → IsDocument (document_of ms)
unfolding faults_in document_of
of_members ms e order =
    let e1 = (append_is_nil (unknown_keys Document (λ key. key) ms) _ e).1 in
    let e2 = (append_is_nil (version ms) _ e1).1 in
    let e3 = (append_is_nil (root ms) _ e2).1 in
    let e4 = append_is_nil (fuel ms) _ e3 in
    let e5 = append_is_nil (section (objects_section ms) ms) _ e4.1 in
    let e6 = append_is_nil (section Arrays ms) (section Fields ms ++ section Params ms) e5.1 in
    let rest = append_is_nil (section Fields ms) (section Params ms) e6.1 in
    record {
      version = version_is (is_second ms);
      fuel = fuelled (codes "fuel") (get_member (codes "fuel") ms) e4.0;
      objects = objects_are (is_second ms) ms e5.0;
      arrays = bounds_are (table_of Arrays ms) (table_entries Arrays (get_member (name_of Arrays) ms) e6.0);
      fields = fields_are (table_of Fields ms) (table_entries Fields (get_member (name_of Fields) ms) rest.0);
      params = params_are (table_of Params ms) (table_entries Params (get_member (name_of Params) ms) rest.1);
      order = order;
    }

pub read : ReadLaw
unfolding document_in
read ms d e order = go (least (faults_in ms)) refl e
  where
    go : (o : Option Fault) → least (faults_in ms) ≡ o → unless o (document_of ms) ≡ Ok d → IsDocument d
    go None n e =
        let same : document_of ms ≡ d = cc (e) in
        subst IsDocument same (of_members ms (unbroken_whole (faults_in ms) n) (subst IsInOrder (sym same) order))
    go (Some f) n e = absurd (cc (e))
