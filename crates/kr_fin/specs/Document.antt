-- To be believed: the finitization that a table states, where it breaks no rule. What breaks one is left out, or counts as none.
use Rattle.std.specs.Prelude.{ℕ, ℤ, pos, negsuc, List, [], ◌∷◌, ◌++◌, Option, Some, None, codes, if◌then◌else◌, option_and_then, unwrap_or}
use Rattle.toml.specs.Data.{Data, string, integer, float, boolean, datetime, array, table, Items, no_items, item, Members, no_members, member, get_member, as_integer, as_str, as_array, as_table}
use Rattle.kr_fin.specs.declared.document.Item.{Item}
use Rattle.kr_fin.specs.declared.document.Item.TheVariants.{Number, Range, Truth, Name}
use Rattle.kr_fin.specs.declared.document.Count.{Count}
use Rattle.kr_fin.specs.declared.document.ArrayBound.{ArrayBound}
use Rattle.kr_fin.specs.declared.document.NamedDomain.{NamedDomain}
use Rattle.kr_fin.specs.declared.document.FinDoc.{FinDoc}
use Rattle.kr_fin.specs.declared.shapes.Limits.{Limits}
use Rattle.kr_fin.specs.declared.shapes.Section.{Section}
use Rattle.kr_fin.specs.declared.shapes.Section.TheVariants.{Objects, Domains, Arrays, Fields, Params}
use Rattle.kr_fin.specs.Shapes.{name_of, have, counts, fuels}
use Rattle.kr_fin.specs.Version.{version_of, objects_section}

abbrev Text : Type 0
Text = List ℕ

-- ---- Values at keys

abbrev pub members_of : Option Data → Members
members_of None = no_members
members_of (Some d) = unwrap_or (as_table d) no_members

abbrev pub text_of : Option Data → Text
text_of None = []
text_of (Some d) = unwrap_or (as_str d) []

abbrev pub magnitude : ℤ → ℕ
magnitude (pos n) = n
magnitude (negsuc n) = 0

abbrev pub within : Limits → Option ℤ → ℕ
within limits None = 0
within limits (Some number) = if have limits number then magnitude number else 0

abbrev pub number_of : Limits → Option Data → ℕ
number_of limits d = within limits (option_and_then as_integer d)

-- ---- Domains

abbrev pub range_of : Option ℤ → Option ℤ → List Item
range_of None to = []
range_of (Some from) None = []
range_of (Some from) (Some to) = Range from to ∷ []

abbrev pub range_in : Members → List Item
range_in ms = range_of (option_and_then as_integer (get_member (codes "from") ms))
    (option_and_then as_integer (get_member (codes "to") ms))

abbrev pub item_of : Data → List Item
item_of (integer number) = Number number ∷ []
item_of (table ms) = range_in ms
item_of (boolean truth) = Truth truth ∷ []
item_of (string name) = Name name ∷ []
item_of (float x) = []
item_of (datetime dt) = []
item_of (array ds) = []

abbrev pub items_of : Items → List Item
items_of no_items = []
items_of (item d rest) = item_of d ++ items_of rest

abbrev pub domain_of : Option Data → List Item
domain_of None = []
domain_of (Some d) = items_of (unwrap_or (as_array d) no_items)

-- ---- entries of the tables of names

abbrev pub counts_of : Members → List Count
counts_of no_members = []
counts_of (member key d rest) = record { name = key; class = key; count = number_of counts (Some d) } ∷ counts_of rest

abbrev pub object_domain_of : Text → Members → Count
object_domain_of key ms = record {
  name = key;
  class = text_of (get_member (codes "class") ms);
  count = number_of counts (get_member (codes "count") ms);
}

abbrev pub object_domains_of : Members → List Count
object_domains_of no_members = []
object_domains_of (member key d rest) = object_domain_of key (members_of (Some d)) ∷ object_domains_of rest

-- the objects of either version: in the first each class is its own domain
abbrev pub objects_of : Section → Members → List Count
objects_of Domains ms = object_domains_of ms
objects_of _ ms = counts_of ms

abbrev pub bound_of : Text → Members → ArrayBound
bound_of key ms = record {
  name = key;
  count = number_of counts (get_member (codes "count") ms);
  lengths = domain_of (get_member (codes "lengths") ms);
}

abbrev pub bounds_of : Members → List ArrayBound
bounds_of no_members = []
bounds_of (member key d rest) = bound_of key (members_of (Some d)) ∷ bounds_of rest

abbrev pub domains_of : Members → List NamedDomain
domains_of no_members = []
domains_of (member key d rest) = record { key = key; domain = domain_of (Some d) } ∷ domains_of rest

abbrev pub table_of : Section → Members → Members
table_of section ms = members_of (get_member (name_of section) ms)

-- ---- The whole

unfoldable pub document_of : Members → FinDoc
document_of ms = record {
  version = version_of ms;
  root = text_of (get_member (codes "root") ms);
  fuel = number_of fuels (get_member (codes "fuel") ms);
  objects = objects_of (objects_section ms) (table_of (objects_section ms) ms);
  arrays = bounds_of (table_of Arrays ms);
  fields = domains_of (table_of Fields ms);
  params = domains_of (table_of Params ms);
}
