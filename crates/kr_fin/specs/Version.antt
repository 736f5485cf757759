-- To be believed: the version of a finitization's table: 2 where it says so, else 1.
use Rattle.std.specs.Prelude.{◌==◌, ℕ, ℤ, pos, negsuc, Bool, true, false, Option, Some, None, codes, if◌then◌else◌, option_and_then}
use Rattle.toml.specs.Data.{Members, get_member, as_integer}
use Rattle.kr_fin.specs.declared.shapes.Section.{Section}
use Rattle.kr_fin.specs.declared.shapes.Section.TheVariants.{Objects, Domains}

abbrev pub is_two : Option ℤ → Bool
is_two None = false
is_two (Some (negsuc n)) = false
is_two (Some (pos n)) = n == 2

-- the table is to be read as version 2
unfoldable pub is_second : Members → Bool
is_second ms = is_two (option_and_then as_integer (get_member (codes "version") ms))

abbrev pub version_of : Members → ℕ
version_of ms = if is_second ms then 2 else 1

-- how the table of objects is to be read
abbrev pub objects_section : Members → Section
objects_section ms = if is_second ms then Domains else Objects
