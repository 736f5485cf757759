-- To be believed: the table of TOML that a finitization is written as: each key once, in the order of bytes.
use Rattle.std.specs.Prelude.{ℕ, pos, ◌==◌, List, [], ◌∷◌, fold, codes, if◌then◌else◌}
use Rattle.std.specs.Ordering.{nat_cmp, match_ordering}
use Rattle.std.specs.Cmp.Lexicographic.{slice_cmp}
use Rattle.toml.specs.Data.{Data, string, integer, boolean, array, table, Items, no_items, item, Members, no_members, member}
use Rattle.kr_fin.specs.declared.document.ArrayBound.{ArrayBound}
use Rattle.kr_fin.specs.declared.document.Count.{Count}
use Rattle.kr_fin.specs.declared.document.FinDoc.{FinDoc}
use Rattle.kr_fin.specs.declared.document.NamedDomain.{NamedDomain}
use Rattle.kr_fin.specs.declared.document.Item.{Item}
use Rattle.kr_fin.specs.declared.document.Item.TheVariants.{Number, Range, Truth, Name}

-- one more key at its place; its value, where the key is there
abbrev pub put : Members → List ℕ → Data → Members
put no_members k d = member k d no_members
put (member l e ms) k d = match_ordering (slice_cmp nat_cmp k l) (member k d (member l e ms)) (member l d ms) (member l e (put ms k d))

-- ---- domains

abbrev pub two_keys : List ℕ → Data → List ℕ → Data → Members
two_keys k d l e = put (put no_members k d) l e

abbrev pub data_of : Item → Data
data_of (Number z) = integer z
data_of (Range from to) = table (two_keys (codes "from") (integer from) (codes "to") (integer to))
data_of (Truth b) = boolean b
data_of (Name n) = string n

abbrev pub domain_items : List Item → Items
domain_items [] = no_items
domain_items (i ∷ is) = item (data_of i) (domain_items is)

abbrev pub domain_data : List Item → Data
domain_data is = array (domain_items is)

-- ---- the tables of names

-- of version 2 the class too
abbrev pub count_data : ℕ → Count → Data
count_data version c =
    if version == 2 then table (two_keys (codes "class") (string c.class) (codes "count") (integer (pos c.count)))
    else integer (pos c.count)

abbrev pub bound_data : ArrayBound → Data
bound_data b = table (two_keys (codes "count") (integer (pos b.count)) (codes "lengths") (domain_data b.lengths))

abbrev pub put_count : ℕ → Members → Count → Members
put_count version ms c = put ms c.name (count_data version c)

abbrev pub put_bound : Members → ArrayBound → Members
put_bound ms b = put ms b.name (bound_data b)

abbrev pub put_domain : Members → NamedDomain → Members
put_domain ms d = put ms d.key (domain_data d.domain)

abbrev pub counts_table : ℕ → List Count → Members
counts_table version cs = fold (put_count version) no_members cs

abbrev pub bounds_table : List ArrayBound → Members
bounds_table bs = fold put_bound no_members bs

abbrev pub domains_table : List NamedDomain → Members
domains_table ds = fold put_domain no_members ds

-- ---- the whole

abbrev pub with_head : Members → FinDoc → Members
with_head ms d =
    put (put (put ms
    (codes "version") (integer (pos d.version)))
    (codes "root") (string d.root))
    (codes "fuel") (integer (pos d.fuel))

abbrev pub with_tables : Members → FinDoc → Members
with_tables ms d =
    put (put (put (put ms
    (codes "objects") (table (counts_table d.version d.objects)))
    (codes "arrays") (table (bounds_table d.arrays)))
    (codes "fields") (table (domains_table d.fields)))
    (codes "params") (table (domains_table d.params))

unfoldable pub table_of : FinDoc → Members
table_of d = with_tables (with_head no_members d) d
