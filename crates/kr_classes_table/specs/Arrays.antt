-- To be believed: the array types that a program names, numbered in order. An element type that is an array comes
-- before its array.
use Rattle.std.specs.Prelude.{ℕ, ◌+◌, Bool, false, ◌||◌, List, [], ◌∷◌, ◌++◌, flat_map, if◌then◌else◌, Option, Some, None}
use Rattle.kr_ast.specs.Tree as trees
use Rattle.kr_ast.specs.Tree.{Tree}
use Rattle.kr_classes_table.specs.Nodes.{nodes}
use Rattle.kr_classes_table.specs.Types.{JavaType, ArrayType, SetType, ListType, is_same}
use Rattle.kr_classes_table.specs.Table.{Heading, headings_of, type_named}

-- the array types in a type, those of elements first
abbrev pub arrays_in : JavaType → List JavaType
arrays_in (ArrayType t) = arrays_in t ++ ArrayType t ∷ []
arrays_in (SetType t) = arrays_in t
arrays_in (ListType t) = arrays_in t
arrays_in t = []

-- those that a node names; `new T[n]` names `T[]`
abbrev pub arrays_named : List Heading → Tree → List JavaType
arrays_named hs (trees.ArrayType p e) = arrays_in (type_named hs (trees.ArrayType p e))
arrays_named hs (trees.ArrayCreation p t n) = arrays_in (ArrayType (type_named hs t))
arrays_named hs _ = []

-- the type is one of these
abbrev pub is_listed : JavaType → List JavaType → Bool
is_listed t [] = false
is_listed t (u ∷ us) = is_same t u || is_listed t us

-- each of them once, at its first occurrence
abbrev pub once : List JavaType → List JavaType → List JavaType
once seen [] = []
once seen (t ∷ ts) = if is_listed t seen then once seen ts else t ∷ once (t ∷ seen) ts

-- in file and source order
abbrev pub array_types_of : List Tree → List JavaType
array_types_of files = once [] (flat_map (arrays_named (headings_of files)) (flat_map nodes files))

abbrev pub array_number_from : ℕ → List JavaType → JavaType → Option ℕ
array_number_from k [] t = None
array_number_from k (u ∷ us) t = if is_same t u then Some k else array_number_from (k + 1) us t

-- the number of an array type
abbrev pub array_number : List JavaType → JavaType → Option ℕ
array_number types t = array_number_from 0 types t
