-- Between crates: the names of parameters, as the nodes of a file have them.
use Rattle.std.specs.Prelude.{ℕ, List, [], ◌∷◌, flat_map, Option, Some, None}
use Rattle.kr_ast.specs.Tree as trees
use Rattle.kr_ast.specs.Tree.{Tree}
use Rattle.kr_ast.specs.Arena.{Arena, tree_in}
use Rattle.kr_ast.specs.Files.{file_at}
use Rattle.kr_classes_table.specs.Table.{items}
use Rattle.kr_classes_members.specs.declared.methods.Method.{Method}

-- the name of a parameter
abbrev pub name_under : Tree → List (List ℕ)
name_under (trees.Parameter p t n) = n ∷ []
name_under _ = []

-- those of the parameters of a list
abbrev pub listed_names : Arena → ℕ → List (List ℕ)
listed_names a n = flat_map name_under (items (tree_in a n))

-- those of a method's parameters; none where there is no method
abbrev pub names_of : List Arena → Option Method → List (List ℕ)
names_of files None = []
names_of files (Some m) = listed_names (file_at files m.file) m.parameters
