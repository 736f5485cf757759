-- Between crates: the scopes of all nodes of a tree.
use Rattle.std.specs.Prelude.{ℕ, ◌+◌, ◌≤◌, ◌<◌, ◌≡◌, List, length, slice_get, set, slice_index_or, false, Some, None}
use Rattle.kr_ast.specs.declared.node.Entry.{Entry}
use Rattle.kr_ast.specs.Arena.{Arena, IsPart, tree_in}
use Rattle.kr_classes_table.specs.Table.{Table}
use Rattle.kr_classes_table.specs.Constants.{Known}
use Rattle.kr_types_meaning.specs.Scopes.{Scope, scope_of}
use Rattle.kr_types_scopes.specs.declared.within.Part.TheVariants as parts
use Rattle.kr_types_scopes.specs.declared.within.Role.TheVariants as roles
use Rattle.kr_types_scopes.specs.declared.within.Declaring.TheVariants as declarings
use Rattle.kr_types_scopes.specs.declared.within.Within.{Within}
use Rattle.kr_types_scopes.specs.declared.within.Binding.{Binding}
use Rattle.kr_types_scopes.specs.Settings.{Setting, setting, scope_in, IsChain, AreNamed}
use Rattle.kr_types_meaning.specs.Handing.{handed}
use Rattle.kr_types_scopes.specs.Tasks.{IsStep}
use Rattle.kr_types_scopes.specs.Newest.{IsStart}

-- outside of classes
abbrev pub nowhere : Within
nowhere = record {
  class = None;
  is_static = false;
  result = None;
  top = 0;
  is_in_loop = false;
  part = parts.Code;
  is_in_old = false;
  role = roles.AsValue;
  declaring = declarings.Fields;
  declared = None;
  start = 0;
}

abbrev pub scope_at : Setting → List Binding → List Within → ℕ → Scope
scope_at g bs ws i = scope_in g bs (slice_index_or ws i nowhere)

-- for the own names of the nodes from this one on
abbrev pub AreStarts : Arena → List Binding → List Within → List ℕ → ℕ → Type 0
AreStarts tree bs ws starts from = (i : ℕ) → from ≤ i → i < length tree.entries → IsStart tree bs (slice_index_or ws i nowhere).top i (slice_index_or starts i 0)

-- The last node has the scope outside of classes, and each part of a node the one that the node hands to it. The search for a
-- node's own name may begin where its scope says.
pub record IsScoped (g : Setting) (bs : List Binding) (ws : List Within) : Type 0 where
  pub long : length ws ≡ length g.tree.entries
  pub tops : (i : ℕ) → (slice_index_or ws i nowhere).top ≤ length bs
  pub chain : IsChain bs
  pub named : AreNamed g.tree bs
  pub starts : (i : ℕ) → i < length g.tree.entries → IsStart g.tree bs (slice_index_or ws i nowhere).top i (slice_index_or ws i nowhere).start
  pub root : (i : ℕ) → i + 1 ≡ length g.tree.entries → scope_at g bs ws i ≡ scope_of g.table g.values 0
  pub hands : (i j c : ℕ) → i < length g.tree.entries → IsPart g.tree.entries i j c → scope_at g bs ws c ≡ handed (scope_at g bs ws i) (tree_in g.tree i) j

-- whatever the class table and the constants
abbrev pub AreScopes : Arena → List Binding → List Within → Type 0
AreScopes tree bs ws = (t : Table) (v : List Known) → IsScoped (setting t v tree) bs ws

-- the scope of a part, made in a step from that of the node above it
abbrev pub IsHanded : Arena → List Binding → List Binding → List Within → ℕ → Within → Type 0
IsHanded a old new ws i made =
    (e : Entry) → slice_get a.entries i ≡ Some e → IsStep a old new made (λ g. handed (scope_in g old (slice_index_or ws e.parent nowhere)) (tree_in g.tree e.parent) e.position)

-- the scope of the part is that one
pub record IsPlaced (a : Arena) (old new : List Binding) (ws more : List Within) (i : ℕ) : Type 0 where
  pub made : Within
  pub items : more ≡ set ws i made
  pub handed : IsHanded a old new ws i made
