-- Between crates: nodes at which code is entered: lists of statements, initial values, conditions.
use Rattle.std.specs.Prelude.{◌≡◌, ℕ, List, [], ◌∷◌, ◌++◌, map, flat_map, All, Option, Some, None, if◌then◌else◌}
use Rattle.kr_ast.specs.Tree.{Tree}
use Rattle.kr_classes_table.specs.Table.{Method}
use Rattle.kr_types_meaning.specs.Scopes.{Scope, Requiring, in_contract}
use Rattle.kr_ast.specs.declared.files.NodeId.{NodeId}
use Rattle.kr_types_meaning.specs.Running.{running}
use Rattle.kr_laws_types.specs.Derivation.{IsContractLine, IsExpression}
use Rattle.kr_types.specs.declared.program.Program.{Program}
use Rattle.kr_mean.specs.Code.{Node, code}
use Rattle.kr_mean.specs.Program as meaning
use Rattle.kr_mean.specs.Program.{method_scope}
use Rattle.kr_mean.specs.Runs.{required_in}
use Rattle.kr_mean.specs.Purity.{condition_after}
use Rattle.kr_pure.specs.Seen.{IsSeen}
use Rattle.kr_code_members.specs.Nodes.{IsThere, node_scope, node_tree}
use Rattle.kr_code_members.specs.declared.nodes.ClassNodes.{ClassNodes}
use Rattle.kr_code_members.specs.declared.nodes.ConstructorNode.{ConstructorNode}
use Rattle.kr_code_members.specs.declared.nodes.FieldNode.{FieldNode}
use Rattle.kr_pure.specs.declared.conditions.Side.{Side}
use Rattle.kr_pure.specs.declared.conditions.Side.TheVariants as sides

-- the node in the scope that it runs in
abbrev pub node_of : Program → NodeId → Node
node_of p n = record { scope = running (node_scope p n.file n.node); tree = node_tree p n.file n.node }

-- the code that is entered at a node
abbrev pub code_at : Program → NodeId → List Node
code_at p n = code (running (node_scope p n.file n.node)) (node_tree p n.file n.node)

-- the node is there, and a walk from it sees its code
pub record IsEntry (p : Program) (n : NodeId) : Type 0 where
  pub there : IsThere p n.file n.node
  pub seen : IsSeen (node_scope p n.file n.node) (node_tree p n.file n.node)

-- this is the code that is entered at these nodes, one after another
pub record Enter (p : Program) (ns : List Node) (entries : List NodeId) : Type 0 where
  pub stand : All (IsEntry p) entries
  pub code : flat_map (code_at p) entries ≡ ns

-- ---- entries of members

abbrev pub initial_entry : FieldNode → List NodeId
initial_entry f = if f.is_static then [] else record { file = f.file; node = f.initial } ∷ []

abbrev pub constructor_entries : Option ConstructorNode → List NodeId
constructor_entries None = []
constructor_entries (Some k) = record { file = k.file; node = k.super_call } ∷ record { file = k.file; node = k.body } ∷ []

-- the code of a class that a creation runs
abbrev pub class_entries : ClassNodes → List NodeId
class_entries k = flat_map initial_entry k.fields.items ++ constructor_entries k.constructor

-- ---- conditions

-- the conditions of that side in a line, in the scope of its method
abbrev pub stated : Side → Scope → Tree → List Node
stated sides.Required s t = map (λ e. record { scope = in_contract Requiring s; tree = e }) (required_in t)
stated sides.Ensured s t = condition_after s t

abbrev pub side_nodes : meaning.Program → Side → Method → List Node
side_nodes program side m = flat_map (stated side (method_scope program m)) m.contracts

-- their code
abbrev pub line_code : Side → Scope → Tree → List Node
line_code side s t = flat_map (λ (n : Node). code n.scope n.tree) (stated side s t)

-- a line of a contract
pub record IsLine (p : Program) (file line : ℕ) : Type 0 where
  pub there : IsThere p file line
  pub shape : IsContractLine (node_tree p file line)

-- it is the condition of a line of that side
pub record IsCondition (p : Program) (side : Side) (file line node : ℕ) : Type 0 where
  pub there : IsThere p file node
  pub stated_is : stated side (running (node_scope p file line)) (node_tree p file line) ≡ node_of p (record { file = file; node = node }) ∷ []
  pub shape : IsExpression (node_tree p file node)
