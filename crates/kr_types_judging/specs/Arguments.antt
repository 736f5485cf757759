-- Between crates: arguments and parameters by the trees of the parameters' types.
use Rattle.std.specs.Prelude.{ℕ, Bool, true, false, ◌&&◌, List, [], ◌∷◌, flat_map}
use Rattle.kr_ast.specs.Tree as trees
use Rattle.kr_ast.specs.Tree.{Tree}
use Rattle.kr_ast.specs.Arena.{Arena, tree_in}
use Rattle.kr_classes_table.specs.Types.{JavaType}
use Rattle.kr_classes_table.specs.Table.{Table, Heading, items, type_named}
use Rattle.kr_types_judging.specs.Shown.{goes_into}

-- the tree of the type of a parameter
abbrev pub parameter_type : Tree → List Tree
parameter_type (trees.Parameter p t n) = t ∷ []
parameter_type _ = []

abbrev pub parameter_types_in : Arena → ℕ → List Tree
parameter_types_in a n = parameter_type (tree_in a n)

-- those of the parameters of a list
abbrev pub listed_types : Arena → ℕ → List Tree
listed_types a n = flat_map parameter_type (items (tree_in a n))

-- equally many arguments and parameters, pairwise assignable
abbrev pub arguments_go_into : Table → List Heading → List JavaType → List Tree → Bool
arguments_go_into t hs [] [] = true
arguments_go_into t hs (a ∷ more) (p ∷ ps) = goes_into t (type_named hs p) a && arguments_go_into t hs more ps
arguments_go_into t hs _ _ = false
