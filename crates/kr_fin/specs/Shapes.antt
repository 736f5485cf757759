-- To be believed: the tables of a finitization: which keys they have, and the limits of the numbers there.
use Rattle.std.specs.Prelude.{◌&&◌, ◌||◌, ◌==◌, ℕ, ℤ, pos, negsuc, Bool, not, List, ◌++◌, length, codes}
use Rattle.std.specs.Int.Signed.{le_z}
use Rattle.std.specs.List.{list_all, before_first, after_first}
use Rattle.std.specs.Str.{bytes_eq}
use Rattle.kr_fin.specs.Identifiers.{is_identifier}
use Rattle.kr_fin.specs.declared.shapes.Limits.{Limits}
use Rattle.kr_fin.specs.declared.shapes.Purpose.{Purpose}
use Rattle.kr_fin.specs.declared.shapes.Purpose.TheVariants.{Lengths, Slot}
use Rattle.kr_fin.specs.declared.shapes.Section.{Section}
use Rattle.kr_fin.specs.declared.shapes.Section.TheVariants.{Objects, Domains, Arrays, Fields, Params}
use Rattle.kr_fin.specs.declared.shapes.Shape.{Shape}
use Rattle.kr_fin.specs.declared.shapes.Shape.TheVariants.{Document, Range, Array, ObjectDomain}

-- the keys of the tables that have fixed ones
abbrev pub knows : Shape → List ℕ → Bool
knows Document key = bytes_eq key (codes "version")
    || bytes_eq key (codes "root") || bytes_eq key (codes "fuel")
    || bytes_eq key (codes "objects") || bytes_eq key (codes "arrays")
    || bytes_eq key (codes "fields") || bytes_eq key (codes "params")
knows Range key = bytes_eq key (codes "from") || bytes_eq key (codes "to")
knows Array key = bytes_eq key (codes "count") || bytes_eq key (codes "lengths")
knows ObjectDomain key = bytes_eq key (codes "class") || bytes_eq key (codes "count")

-- the keys of the tables whose own keys are names; both versions' objects are at one key
abbrev pub name_of : Section → List ℕ
name_of Objects = codes "objects"
name_of Domains = codes "objects"
name_of Arrays = codes "arrays"
name_of Fields = codes "fields"
name_of Params = codes "params"

-- a table's entry for a name is at the table's key, a dot and the name
abbrev pub item_of : Section → List ℕ → List ℕ
item_of section name = name_of section ++ codes "." ++ name

-- the number is from the low limit to the high one
abbrev pub have : Limits → ℤ → Bool
have limits number = le_z limits.low number && le_z number limits.high

-- the versions of the format
abbrev pub versions : Limits
versions = record { low = pos 1; high = pos 2 }

-- how many objects an object domain or an array type may have, and how long arrays may be
abbrev pub counts : Limits
counts = record { low = pos 0; high = pos 64 }

-- how many units a run may cost
abbrev pub fuels : Limits
fuels = record { low = pos 1; high = pos 1000000000 }

-- numbers of 64 bits: all that a document can have
abbrev pub longs : Limits
longs = record { low = negsuc 9223372036854775807; high = pos 9223372036854775807 }

abbrev pub limits_of : Purpose → Limits
limits_of Lengths = counts
limits_of Slot = longs

abbrev pub is_dot : ℕ → Bool
is_dot byte = byte == 46

abbrev pub has_no_dot : List ℕ → Bool
has_no_dot text = list_all (λ byte. not (is_dot byte)) text

-- something without a dot
abbrev pub is_part : List ℕ → Bool
is_part text = not (length text == 0) && has_no_dot text

-- two parts with a dot between them
abbrev pub is_pair : List ℕ → Bool
is_pair key = is_part (before_first is_dot key) && is_part (after_first is_dot key)

-- a name of an object domain: an identifier other than null
abbrev pub is_domain_name : List ℕ → Bool
is_domain_name key = is_identifier key && not (bytes_eq key (codes "null"))
