-- Between crates: the files of a program as lists of nodes, and the nodes in them.
use Rattle.std.specs.Prelude.{◌<◌, ℕ, List, [], length, slice_index_or}
use Rattle.kr_ast.specs.Arena.{Arena, tree_in}
use Rattle.kr_ast.specs.Tree.{Tree}
use Rattle.kr_ast.specs.declared.files.NodeId.{NodeId}

-- a file that isn't there
abbrev pub no_file : Arena
no_file = record { text = []; entries = [] }

abbrev pub file_at : List Arena → ℕ → Arena
file_at files f = slice_index_or files f no_file

abbrev pub tree_of_node : List Arena → NodeId → Tree
tree_of_node files n = tree_in (file_at files n.file) n.node

-- the node is in the files
pub record IsNode (files : List Arena) (n : NodeId) : Type 0 where
  pub file : n.file < length files
  pub node : n.node < length (file_at files n.file).entries
