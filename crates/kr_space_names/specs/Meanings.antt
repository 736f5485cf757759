-- Between crates: the meanings of names, with types by their numbers.
use Rattle.std.specs.Prelude.{◌≡◌, Bool, true, false}
use Rattle.kr_space_meaning.specs.Names.{Meant, NoReference, Unknown as Nothing, Arrays as ArraysOf}
use Rattle.kr_space_meaning.specs.Names as names
use Rattle.kr_classes_names.specs.Types.{TypeList, IsTypeNumber}
use Rattle.kr_space_names.specs.declared.meaning.Meaning.{Meaning}
use Rattle.kr_space_names.specs.declared.meaning.Meaning.TheVariants.{Null, Objects, Arrays, Unknown}

abbrev pub IsMeaning : TypeList → Meaning → Meant → Type 0
IsMeaning types Null NoReference = Unit {0}
IsMeaning types (Objects c) (names.Objects d) = c ≡ d
IsMeaning types (Arrays n) (ArraysOf t) = IsTypeNumber types n t
IsMeaning types Unknown Nothing = Unit {0}
IsMeaning types _ _ = ⊥

abbrev pub is_nothing : Meaning → Bool
is_nothing Unknown = true
is_nothing Null = false
is_nothing (Objects c) = false
is_nothing (Arrays n) = false
