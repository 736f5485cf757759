-- Between crates: the numbers of the types that nodes name.
use Rattle.std.specs.Prelude.{◌≡◌, ℕ, ◌<◌, List, [], length, map, slice_index_or}
use Rattle.kr_ast.specs.Arena.{Arena, root, tree_in}
use Rattle.kr_ast.specs.declared.node.Primitive.{Primitive}
use Rattle.kr_ast.specs.declared.node.Primitive.TheVariants.{Int, Long, Boolean, Void}
use Rattle.kr_classes_table.specs.Types.{JavaType, int_type, long_type, BooleanType, VoidType}
use Rattle.kr_classes_table.specs.Table.{headings_of, type_named}
use Rattle.kr_ast.specs.Files.{file_at}
use Rattle.kr_classes_names.specs.Types.{TypeList, IsTypeNumber}

-- the type that a file's node names
abbrev pub named_type : List Arena → ℕ → ℕ → JavaType
named_type files f n = type_named (headings_of (map root files)) (tree_in (file_at files f) n)

-- the numbers of what the first nodes of a file name
abbrev pub AreNumbersOf : List Arena → TypeList → ℕ → ℕ → List ℕ → Type 0
AreNumbersOf files l f count ns = (n : ℕ) → n < count → IsTypeNumber l (slice_index_or ns n 3) (named_type files f n)

-- for all nodes of a file
pub record AreFileTypes (files : List Arena) (l : TypeList) (f : ℕ) (ns : List ℕ) : Type 0 where
  pub long : length ns ≡ length (file_at files f).entries
  pub numbers : AreNumbersOf files l f (length ns) ns

-- where there is no node, no type is named: that is the number of what has no value
abbrev pub number_in : List (List ℕ) → ℕ → ℕ → ℕ
number_in ns f n = slice_index_or (slice_index_or ns f []) n 3

-- for the first files
abbrev pub AreNodeTypesOf : List Arena → TypeList → ℕ → List (List ℕ) → Type 0
AreNodeTypesOf files l count ns = (f : ℕ) → f < count → AreFileTypes files l f (slice_index_or ns f [])

-- the numbers of the types that all nodes name
abbrev pub AreNodeTypes : List Arena → TypeList → List (List ℕ) → Type 0
AreNodeTypes files l ns = (f n : ℕ) → IsTypeNumber l (number_in ns f n) (named_type files f n)

abbrev pub primitive_named : Primitive → JavaType
primitive_named Int = int_type
primitive_named Long = long_type
primitive_named Boolean = BooleanType
primitive_named Void = VoidType
