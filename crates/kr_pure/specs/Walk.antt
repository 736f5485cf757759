-- Between crates: the walk over a tree's nodes by their numbers.
use Rattle.std.specs.Prelude.{◌≡◌, ℕ, List, [], Some, slice_get}
use Rattle.kr_ast.specs.declared.node.Node.{Node as AstNode}
use Rattle.kr_ast.specs.declared.node.Node.TheVariants as nodes
use Rattle.kr_ast.specs.declared.node.Entry.{Entry}
use Rattle.kr_ast.specs.Arena.{IsArena, parts, tree_in}
use Rattle.kr_ast.specs.Tree.{Tree}
use Rattle.kr_classes_table.specs.Table.{items}
use Rattle.kr_types_meaning.specs.Scopes.{Scope}
use Rattle.kr_types_scopes.specs.declared.within.Within.{Within}
use Rattle.kr_types_scopes.specs.declared.within.Binding.{Binding}
use Rattle.kr_types_scopes.specs.Settings.{Setting}
use Rattle.kr_types_scopes.specs.Scoped.{IsScoped, scope_at}
use Rattle.kr_mean.specs.Code.{Node, code, code_of_all}
use Rattle.kr_laws_types.specs.Derivation.{AreStatements}
use Rattle.kr_pure.specs.Seen.{node_on}

-- the parts that the walk goes into, by their numbers
abbrev pub walk_parts : AstNode → List ℕ
walk_parts (nodes.GenericType a b) = []
walk_parts (nodes.DiamondType a) = []
walk_parts (nodes.ArrayType a) = []
walk_parts n = parts n

abbrev pub node_at : Setting → List Binding → List Within → ℕ → Node
node_at g bs ws i = record { scope = scope_at g bs ws i; tree = tree_in g.tree i }

-- the node i is on a path from the node r
abbrev pub IsOnPath : Setting → List Binding → List Within → ℕ → ℕ → Type 0
IsOnPath g bs ws r i = (path : List ℕ) × (node_on (scope_at g bs ws r) (tree_in g.tree r) path ≡ Some (node_at g bs ws i))

-- A node is on a path from itself, and so are with a node the parts that the walk goes into.
pub record IsWalked (g : Setting) (bs : List Binding) (ws : List Within) : Type 0 where
  pub root : (r : ℕ) → IsOnPath g bs ws r r
  pub onward : (r i j c : ℕ) (e : Entry) → IsOnPath g bs ws r i → slice_get g.tree.entries i ≡ Some e → slice_get (walk_parts e.node) j ≡ Some c → IsOnPath g bs ws r c

abbrev pub WalkLaw : Type 0
WalkLaw = (g : Setting) (bs : List Binding) (ws : List Within) → IsArena g.tree.text g.tree.entries → IsScoped g bs ws → IsWalked g bs ws

-- statements one after another, and in a list
abbrev pub AllLaw : Type 0
AllLaw = (s : Scope) (t : Tree) → AreStatements t → code_of_all s (items t) ≡ code s t
