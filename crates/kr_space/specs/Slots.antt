-- Between crates: how many slots a problem has, by object domains and array types.
use Rattle.std.specs.Prelude.{ℕ, ◌+◌, ◌*◌, List, [], ◌∷◌, length}
use Rattle.kr_classes_table.specs.Types.{JavaType}
use Rattle.kr_classes_table.specs.Table.{fields_of}
use Rattle.kr_fin.specs.declared.document.Count.{Count}
use Rattle.kr_fin.specs.declared.document.ArrayBound.{ArrayBound}
use Rattle.kr_space_meaning.specs.Bounds.{Setting, greatest, lengths_of}

-- each object of a domain has the fields of its class
abbrev pub slots_of_objects : Setting → List (ℕ × Count) → ℕ
slots_of_objects setting [] = 0
slots_of_objects setting (o ∷ more) = o.1.count * length (fields_of setting.table o.0) + slots_of_objects setting more

-- each array has its length, and as many elements as the greatest length
abbrev pub slots_of_arrays : Setting → List (JavaType × ArrayBound) → ℕ
slots_of_arrays setting [] = 0
slots_of_arrays setting (a ∷ more) = a.1.count * (greatest (lengths_of setting a.1.lengths) + 1) + slots_of_arrays setting more
