-- Between crates: nodes in order, of which the first ones are of the first file.
use Rattle.std.specs.Prelude.{ℕ, List, ◌++◌, map}
use Rattle.kr_ast.specs.declared.files.NodeId.{NodeId}

pub record Nodes : Type 0 where
  pub items : List NodeId

-- a node of the first file
abbrev pub near_node : ℕ → NodeId
near_node n = record { file = 0; node = n }

-- nodes of the first file, followed by others
abbrev pub all_nodes : List ℕ → List NodeId → List NodeId
all_nodes ns others = map near_node ns ++ others
