-- What was read of a document's sections that break no rule: entries that break none, and items within their limits.
use Rattle.std.proofs.Common.{◌≡◌, ℕ, ℤ, Bool, true, false, cond, List, [], ◌∷◌, codes, Option, Some, None, refl, sym, ap, subst, ◌∙◌}
use Rattle.std.specs.Prelude.{MatchOption, option_and_then}
use Rattle.std.specs.List.{AllByRecursion}
use Rattle.toml.specs.Data.{Data, string, integer, float, boolean, datetime, array, table, Items, no_items, item, Members, get_member, as_integer, as_table}
use Rattle.kr_base.proofs.ListLemmas.{append_is_nil}
use Rattle.kr_fin.specs.declared.document.Item.{Item}
use Rattle.kr_fin.specs.declared.document.Item.TheVariants as items
use Rattle.kr_fin.specs.declared.refusal.FinRule.TheVariants.{OutOfLimit}
use Rattle.kr_fin.specs.declared.shapes.Limits.{Limits}
use Rattle.kr_fin.specs.declared.shapes.Purpose.{Purpose}
use Rattle.kr_fin.specs.declared.shapes.Purpose.TheVariants.{Lengths, Slot}
use Rattle.kr_fin.specs.declared.shapes.Section.{Section}
use Rattle.kr_fin.specs.declared.shapes.Shape.TheVariants.{Range}
use Rattle.kr_fin.specs.Document.{domain_of, item_of as item_in, items_of, members_of, range_in, range_of}
use Rattle.kr_fin.specs.Faults.{domain, entries, number, of_kind, optional, range, required, unknown_keys, value, values, within}
use Rattle.kr_fin.specs.Least.{IsLeast}
use Rattle.kr_fin.specs.Order.{Fault, broken, least, rank_of}
use Rattle.kr_fin.specs.Shapes.{have, limits_of, name_of}
use Rattle.kr_fin.proofs.Leasts.{least_of_all}
use Rattle.kr_space_meaning.proofs.Each.{each_of_both}

pub unbroken_whole : (fs : List Fault) → least fs ≡ None → fs ≡ []
unbroken_whole fs e = subst (λ (o : Option Fault). MatchOption o (fs ≡ []) (IsLeast rank_of fs)) e (least_of_all rank_of fs)

-- a table that is absent, or one whose entries break no rule
pub table_entries : (s : Section) (o : Option Data) → optional (λ d. of_kind (entries s) (name_of s) (as_table d)) o ≡ [] → entries s (members_of o) ≡ []
table_entries s None e = refl
table_entries s (Some (table ms)) e = e
table_entries s (Some (integer z)) e = absurd (cc (e))
table_entries s (Some (string t)) e = absurd (cc (e))
table_entries s (Some (float x)) e = absurd (cc (e))
table_entries s (Some (boolean b)) e = absurd (cc (e))
table_entries s (Some (datetime dt)) e = absurd (cc (e))
table_entries s (Some (array ds)) e = absurd (cc (e))

pub in_limits : (limits : Limits) (at : List ℕ) (z : ℤ) → within limits at z ≡ [] → have limits z ≡ true
in_limits limits at z e = go (have limits z) e
  where
    go : (b : Bool) → cond b [] (broken OutOfLimit at) ≡ [] → b ≡ true
    go true e = refl
    go false e = absurd (cc (e))

-- an end of a range
record IsEnd (limits : Limits) (o : Option Data) : Type 0 where
  is : ℤ
  there : option_and_then as_integer o ≡ Some is
  limited : have limits is ≡ true

end_of : (limits : Limits) (at : List ℕ) (o : Option Data) → required (number limits at) at o ≡ [] → IsEnd limits o
end_of limits at None e = absurd (cc (e))
end_of limits at (Some (integer z)) e = record { is = z; there = refl; limited = in_limits limits at z e }
end_of limits at (Some (string s)) e = absurd (cc (e))
end_of limits at (Some (float x)) e = absurd (cc (e))
end_of limits at (Some (boolean b)) e = absurd (cc (e))
end_of limits at (Some (datetime dt)) e = absurd (cc (e))
end_of limits at (Some (array ds)) e = absurd (cc (e))
end_of limits at (Some (table ms)) e = absurd (cc (e))

-- what items within the limits of their purpose hold; lengths are numbers alone
pub record AreHeld (Holds : Purpose → Item → Type 0) : Type 0 where
  pub number : (purpose : Purpose) (z : ℤ) → have (limits_of purpose) z ≡ true → Holds purpose (items.Number z)
  pub range : (purpose : Purpose) (from to : ℤ) → have (limits_of purpose) from ≡ true → have (limits_of purpose) to ≡ true → Holds purpose (items.Range from to)
  pub truth : (b : Bool) → Holds Slot (items.Truth b)
  pub name : (s : List ℕ) → Holds Slot (items.Name s)

module _ (Holds : Purpose → Item → Type 0) (held : AreHeld Holds) where
  abbrev Each : Purpose → List Item → Type 0
  Each purpose is = AllByRecursion (Holds purpose) is

  range_each : (purpose : Purpose) (at : List ℕ) (ms : Members) → range (limits_of purpose) at ms ≡ [] → Each purpose (range_in ms)
  range_each purpose at ms e =
      let ends = append_is_nil _ _ (append_is_nil (unknown_keys Range (λ key. at) ms) _ e).1 in
      let from = end_of (limits_of purpose) at (get_member (codes "from") ms) ends.0 in
      let to = end_of (limits_of purpose) at (get_member (codes "to") ms) ends.1 in
      subst (λ (is : List Item). Each purpose is) (sym (ap (λ (o : Option ℤ). range_of o (option_and_then as_integer (get_member (codes "to") ms))) from.there ∙ ap (λ (o : Option ℤ). range_of (Some from.is) o) to.there))
      (held.range purpose from.is to.is from.limited to.limited, tt)

  truth_each : (purpose : Purpose) (at : List ℕ) (b : Bool) → value purpose at (boolean b) ≡ [] → Each purpose (items.Truth b ∷ [])
  truth_each Slot at b e = (held.truth b, tt)
  truth_each Lengths at b e = absurd (cc (e))

  name_each : (purpose : Purpose) (at s : List ℕ) → value purpose at (string s) ≡ [] → Each purpose (items.Name s ∷ [])
  name_each Slot at s e = (held.name s, tt)
  name_each Lengths at s e = absurd (cc (e))

  value_each : (purpose : Purpose) (at : List ℕ) (d : Data) → value purpose at d ≡ [] → Each purpose (item_in d)
  value_each purpose at (integer z) e = (held.number purpose z (in_limits (limits_of purpose) at z e), tt)
  value_each purpose at (table ms) e = range_each purpose at ms e
  value_each purpose at (boolean b) e = truth_each purpose at b e
  value_each purpose at (string s) e = name_each purpose at s e
  value_each purpose at (float x) e = absurd (cc (e))
  value_each purpose at (datetime dt) e = absurd (cc (e))
  value_each purpose at (array ds) e = absurd (cc (e))

  values_each : (purpose : Purpose) (at : List ℕ) (ds : Items) → values purpose at ds ≡ [] → Each purpose (items_of ds)
  values_each purpose at no_items e = tt
  values_each purpose at (item d rest) e =
      let parts = append_is_nil (value purpose at d) (values purpose at rest) e in
      each_of_both (Holds purpose) (item_in d) (items_of rest) (value_each purpose at d parts.0) (values_each purpose at rest parts.1)

  pub domain_each : (purpose : Purpose) (at : List ℕ) (d : Data) → domain purpose at d ≡ [] → Each purpose (domain_of (Some d))
  domain_each purpose at (array ds) e = values_each purpose at ds e
  domain_each purpose at (integer z) e = absurd (cc (e))
  domain_each purpose at (string s) e = absurd (cc (e))
  domain_each purpose at (float x) e = absurd (cc (e))
  domain_each purpose at (boolean b) e = absurd (cc (e))
  domain_each purpose at (datetime dt) e = absurd (cc (e))
  domain_each purpose at (table ms) e = absurd (cc (e))

  pub required_each : (at : List ℕ) (o : Option Data) → required (domain Lengths at) at o ≡ [] → Each Lengths (domain_of o)
  required_each at None e = absurd (cc (e))
  required_each at (Some d) e = domain_each Lengths at d e
