-- Between crates: texts of a structure that are put one after another.
use Rattle.std.specs.Prelude.{ℕ, Bool, true, false, List, [], ◌∷◌, codes}
use Rattle.kr_value.specs.declared.object.Class.{Class}
use Rattle.kr_value.specs.declared.object.Class.TheVariants.{Object, Array, Set, List as ListClass}
use Rattle.kr_report.specs.Texts.{behind, joined_by}

-- texts with another between each two, and before the first if others are before it
abbrev pub separated : List ℕ → Bool → List (List ℕ) → List ℕ
separated between true texts = behind between texts
separated between false texts = joined_by between texts

-- whether there are any
abbrev pub are_any : List (List ℕ) → Bool
are_any [] = false
are_any (t ∷ ts) = true

-- the brackets of an object
abbrev pub opening : Class → List ℕ
opening (Array t) = codes "["
opening (Object c) = codes "{"
opening Set = codes "{"
opening ListClass = codes "{"

abbrev pub closing : Class → List ℕ
closing (Array t) = codes "]"
closing (Object c) = codes "}"
closing Set = codes "}"
closing ListClass = codes "}"
