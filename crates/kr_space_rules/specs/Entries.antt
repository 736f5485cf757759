-- Between crates: the array types that a document bounds, by the numbers of their types.
use Rattle.std.specs.Prelude.{◌≡◌, ◌<◌, List, [], length, map, All}
use Rattle.std.proofs.Common.{get_or}
use Rattle.kr_classes_table.specs.Types.{JavaType}
use Rattle.kr_classes_table.specs.Table.{Heading}
use Rattle.kr_space_meaning.specs.Names.{array_type}
use Rattle.kr_space_meaning.specs.Bounds.{typed_bound}
use Rattle.kr_fin.specs.declared.document.ArrayBound.{ArrayBound}
use Rattle.kr_classes_names.specs.Types.{TypeList, count, type_at}
use Rattle.kr_space_rules.specs.declared.bounds.Bound.{Bound}

abbrev pub no_bound : ArrayBound
no_bound = record { name = []; count = 0; lengths = [] }

abbrev pub bound_shown : TypeList → List ArrayBound → Bound → JavaType × ArrayBound
bound_shown types all b = (type_at types b.number, get_or all b.at no_bound)

-- the bounds, where the name is an array type's
abbrev pub bound_in : List Heading → ArrayBound → List (JavaType × ArrayBound)
bound_in hs b = typed_bound (array_type hs b.name) b

-- a type's number, and a place in the document
abbrev pub IsBound : TypeList → List ArrayBound → Bound → Type 0
IsBound types all b = (b.number < count types) × (b.at < length all)

pub record AreBounds (types : TypeList) (all : List ArrayBound) (bounds : List Bound) (arrays : List (JavaType × ArrayBound)) : Type 0 where
  pub stand : All (IsBound types all) bounds
  pub shown : map (bound_shown types all) bounds ≡ arrays
