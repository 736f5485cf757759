-- Between crates: the representation of scopes, and the scopes that it represents in a tree.
use Rattle.std.specs.Prelude.{ℕ, ◌+◌, ◌-◌, ◌≤◌, ◌<◌, ◌≡◌, List, [], ◌∷◌, length, Option, Some, None, unwrap_or, slice_get, slice_index_or}
use Rattle.kr_ast.specs.Tree as trees
use Rattle.kr_ast.specs.Tree.{Tree}
use Rattle.kr_ast.specs.Arena.{Arena, tree_in, name_in, AreNamesIn}
use Rattle.kr_ast.specs.Grow.{grow}
use Rattle.kr_classes_table.specs.Types.{JavaType, VoidType}
use Rattle.kr_classes_table.specs.Table.{Table, type_named, number_of}
use Rattle.kr_classes_table.specs.Constants.{Known}
use Rattle.kr_types_meaning.specs.Scopes as typing
use Rattle.kr_types_meaning.specs.Scopes.{Scope, Local}
use Rattle.kr_types_scopes.specs.declared.within.Part.{Part}
use Rattle.kr_types_scopes.specs.declared.within.Part.TheVariants as parts
use Rattle.kr_types_scopes.specs.declared.within.Role.{Role}
use Rattle.kr_types_scopes.specs.declared.within.Role.TheVariants as roles
use Rattle.kr_types_scopes.specs.declared.within.Declaring.{Declaring}
use Rattle.kr_types_scopes.specs.declared.within.Declaring.TheVariants as declarings
use Rattle.kr_types_scopes.specs.declared.within.Within.{Within}
use Rattle.kr_types_scopes.specs.declared.within.Binding.{Binding}

-- a tree with the class table and the constants of its program
pub record Setting : Type 0 where
  pub table : Table
  pub values : List Known
  pub tree : Arena

abbrev pub setting : Table → List Known → Arena → Setting
setting t v a = record { table = t; values = v; tree = a }

-- the number of the class of a node; 0 outside of classes
abbrev pub class_number : Table → Tree → ℕ
class_number t (trees.Class p n e ms) = unwrap_or (number_of t.headings n) 0
class_number t _ = 0

abbrev pub class_there : Setting → Option ℕ → ℕ
class_there g None = 0
class_there g (Some k) = class_number g.table (tree_in g.tree k)

-- the type that a node's tree means
abbrev pub type_there : Setting → Option ℕ → JavaType
type_there g None = VoidType
type_there g (Some k) = type_named g.table.headings (tree_in g.tree k)

abbrev pub part_of : Part → typing.Part
part_of parts.Code = typing.Code
part_of parts.Requiring = typing.Requiring
part_of parts.Ensuring = typing.Ensuring
part_of parts.Signalling = typing.Signalling

abbrev pub role_of : Role → typing.Role
role_of roles.AsValue = typing.AsValue
role_of roles.AsStatement = typing.AsStatement
role_of roles.UnderMinus = typing.UnderMinus

abbrev pub declaring_of : Declaring → typing.Declaring
declaring_of declarings.Locals = typing.Locals
declaring_of declarings.Fields = typing.Fields
declaring_of (declarings.Constants f) = typing.Constants f

-- one more local, on top of those below it
abbrev pub local_of : Setting → Binding → Local
local_of g b = record { name = name_in g.tree.text b.name; type = type_there g b.declared }

abbrev pub extended : Setting → List (List Local) → Binding → List Local
extended g ls b = local_of g b ∷ slice_index_or ls b.below []

-- the locals below a place in the bindings
unfoldable pub locals_at : Setting → List Binding → ℕ → List Local
locals_at g bs k = slice_index_or (grow (extended g) ([] ∷ []) bs) k []

-- the scope that is kept
abbrev pub scope_in : Setting → List Binding → Within → Scope
scope_in g bs w = record {
  table = g.table;
  values = g.values;
  class = class_there g w.class;
  is_static = w.is_static;
  result = type_there g w.result;
  locals = locals_at g bs w.top;
  is_in_loop = w.is_in_loop;
  part = part_of w.part;
  is_in_old = w.is_in_old;
  role = role_of w.role;
  declaring = declaring_of w.declaring;
  declared = type_there g w.declared;
}

-- a binding refers to earlier ones, and knows how many there are
pub record IsLink (bs : List Binding) (k : ℕ) (b : Binding) : Type 0 where
  pub below : b.below ≤ k
  pub number : b.number ≤ k
  pub first : b.below ≡ 0 → b.number ≡ 0
  pub next : (c : Binding) → 0 < b.below → slice_get bs (b.below - 1) ≡ Some c → b.number ≡ c.number + 1

abbrev pub IsChain : List Binding → Type 0
IsChain bs = (k : ℕ) (b : Binding) → slice_get bs k ≡ Some b → IsLink bs k b

-- the names of the bindings are in the tree's text
abbrev pub AreNamed : Arena → List Binding → Type 0
AreNamed tree bs = (k : ℕ) (b : Binding) → slice_get bs k ≡ Some b → AreNamesIn tree.text (b.name ∷ [])

-- more bindings: the locals that were stay
pub record Keeps (g : Setting) (old new : List Binding) : Type 0 where
  pub long : length old ≤ length new
  pub stay : (k : ℕ) → k ≤ length old → locals_at g new k ≡ locals_at g old k
