-- Meaningless names.
use Rattle.std.proofs.Common.{◌≡◌, refl}
use Rattle.kr_space_meaning.specs.Names.{Meant, NoReference, Unknown as Nothing, Arrays as ArraysOf}
use Rattle.kr_space_meaning.specs.Names as names
use Rattle.kr_space_meaning.specs.Faults.{is_unknown}
use Rattle.kr_classes_names.specs.Types.{TypeList}
use Rattle.kr_space_names.specs.declared.meaning.Meaning.{Meaning}
use Rattle.kr_space_names.specs.declared.meaning.Meaning.TheVariants.{Null, Objects, Arrays, Unknown}
use Rattle.kr_space_names.specs.Meanings.{IsMeaning, is_nothing}

pub nothing_is : (types : TypeList) (m : Meaning) (t : Meant) → IsMeaning types m t → is_nothing m ≡ is_unknown t
nothing_is types Null NoReference h = refl
nothing_is types Null (names.Objects d) h = absurd h
nothing_is types Null (ArraysOf t) h = absurd h
nothing_is types Null Nothing h = absurd h
nothing_is types (Objects c) NoReference h = absurd h
nothing_is types (Objects c) (names.Objects d) h = refl
nothing_is types (Objects c) (ArraysOf t) h = absurd h
nothing_is types (Objects c) Nothing h = absurd h
nothing_is types (Arrays n) NoReference h = absurd h
nothing_is types (Arrays n) (names.Objects d) h = absurd h
nothing_is types (Arrays n) (ArraysOf t) h = refl
nothing_is types (Arrays n) Nothing h = absurd h
nothing_is types Unknown NoReference h = absurd h
nothing_is types Unknown (names.Objects d) h = absurd h
nothing_is types Unknown (ArraysOf t) h = absurd h
nothing_is types Unknown Nothing h = refl
