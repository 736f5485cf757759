-- Between crates: the scope after a node, with the pending work on the way.
use Rattle.std.specs.Prelude.{ℕ, ◌+◌, ◌*◌, ◌≤◌, ◌<◌, ◌≡◌, List, [], ◌∷◌, ◌++◌, length, Option, Some}
use Rattle.kr_ast.specs.Tree.{Tree, size}
use Rattle.kr_base.specs.declared.place.Place.{Place}
use Rattle.kr_ast.specs.declared.node.Node.{Node}
use Rattle.kr_ast.specs.declared.node.Node.TheVariants as nodes
use Rattle.kr_ast.specs.Arena.{Arena, tree_in, tree_of}
use Rattle.kr_classes_table.specs.Table.{Table}
use Rattle.kr_classes_table.specs.Constants.{Known}
use Rattle.kr_types_meaning.specs.Scopes.{Scope, after}
use Rattle.kr_types_scopes.specs.declared.within.Role.{Role}
use Rattle.kr_types_scopes.specs.declared.within.Within.{Within}
use Rattle.kr_types_scopes.specs.declared.within.Binding.{Binding}
use Rattle.kr_types_scopes.specs.declared.tasks.Task.{Task}
use Rattle.kr_types_scopes.specs.declared.tasks.Task.TheVariants as tasks
use Rattle.kr_ast.specs.declared.node.Name.{Name}
use Rattle.kr_types_meaning.specs.Handing.{handed}
use Rattle.kr_types_scopes.specs.Settings.{Setting, setting, type_there, scope_in, IsLink, IsChain, AreNamed, Keeps}

-- the scope after a task: that after a node, or one with a result type
abbrev pub behind : Setting → Scope → Task → Scope
behind g s (tasks.Pass k) = after s (tree_in g.tree k)
behind g s (tasks.SetResult k) = record s { result = type_there g (Some k) }

-- the scope after all tasks in order
abbrev pub behind_all : Setting → Scope → List Task → Scope
behind_all g s [] = s
behind_all g s (t ∷ ts) = behind_all g (behind g s t) ts

abbrev pub weight : Arena → Task → ℕ
weight a (tasks.Pass k) = 2 * size (tree_in a k)
weight a (tasks.SetResult k) = 1

abbrev pub weights : Arena → List Task → ℕ
weights a [] = 0
weights a (t ∷ ts) = weight a t + weights a ts

-- a node that declares nothing for its own parts
abbrev pub IsPlain : Node → Type 0
IsPlain (nodes.Cons a b) = ⊥
IsPlain (nodes.Declarator n a) = ⊥
IsPlain (nodes.For a b c d) = ⊥
IsPlain (nodes.Method x n a b) = ⊥
IsPlain (nodes.Signature a b c) = ⊥
IsPlain (nodes.Constructor a b c) = ⊥
IsPlain (nodes.Catch a b) = ⊥
IsPlain (nodes.Signals a b) = ⊥
IsPlain _ = Unit {0}

-- one binding more, of that name and type node, upon those of a scope
pub record IsBound (name : Name) (declared : Option ℕ) (from : Within) (old new : List Binding) (made : Within) : Type 0 where
  pub binding : Binding
  pub items : new ≡ old ++ binding ∷ []
  pub name_is : binding.name ≡ name
  pub declared_is : binding.declared ≡ declared
  pub below_is : binding.below ≡ from.top
  pub link : IsLink old (length old) binding
  pub made_is : made ≡ record from { top = length old + 1 }

-- the scopes that a step makes of bindings, with more of them: the locals that were stay
pub record IsStep (tree : Arena) (old new : List Binding) (made : Within) (scope : Setting → Scope) : Type 0 where
  pub top : made.top ≤ length new
  pub scope_is : (t : Table) (v : List Known) → scope_in (setting t v tree) new made ≡ scope (setting t v tree)
  pub keeps : (t : Table) (v : List Known) → Keeps (setting t v tree) old new
  pub chain : IsChain new
  pub named : AreNamed tree old → AreNamed tree new

-- each task's node is one of the tree
abbrev pub node_of : Task → ℕ
node_of (tasks.Pass k) = k
node_of (tasks.SetResult k) = k

abbrev pub AreWithin : ℕ → List Task → Type 0
AreWithin n [] = Unit {0}
AreWithin n (t ∷ ts) = (node_of t < n) × AreWithin n ts

-- The task is done, except for new tasks ahead of the old ones; after these the scope is the right one.
pub record IsPassed (tree : Arena) (old new : List Binding) (from : Within) (task : Task) (before now : List Task) (made : Within) : Type 0 where
  pub own : List Task
  pub tasks_are : now ≡ own ++ before
  pub within : AreWithin (length tree.entries) own
  pub light : weights tree own < weight tree task
  pub step : IsStep tree old new made (λ g. scope_in g new made)
  pub same : (t : Table) (v : List Known) → behind_all (setting t v tree) (scope_in (setting t v tree) new made) own ≡ behind (setting t v tree) (scope_in (setting t v tree) old from) task

-- whatever the bindings, a node hands this to a part, unless what it declares is in scope there
abbrev pub HandsPlainly : Within → ℕ → Node → ℕ → Within → Type 0
HandsPlainly up at node position made =
    (t : Table) (v : List Known) (a : Arena) (bs : List Binding) (p : Place) → tree_in a at ≡ tree_of a.text (tree_in a) p node → IsPlain node
    → scope_in (setting t v a) bs made ≡ handed (scope_in (setting t v a) bs up) (tree_of a.text (tree_in a) p node) position

-- whatever the bindings, a part of a node of this kind has the node's scope, where that has the role, unless what the node declares is in scope there
abbrev pub StaysPlainly : Node → ℕ → Role → Type 0
StaysPlainly node position role =
    (g : Setting) (bs : List Binding) (w : Within) (p : Place) (at : ℕ) → tree_in g.tree at ≡ tree_of g.tree.text (tree_in g.tree) p node → IsPlain node → w.role ≡ role
    → handed (scope_in g bs w) (tree_of g.tree.text (tree_in g.tree) p node) position ≡ scope_in g bs w

-- a node of this kind leaves the scope unchanged
abbrev pub Leaves : Node → Type 0
Leaves node = (s : Scope) (text : List ℕ) (look : ℕ → Tree) (p : Place) → after s (tree_of text look p node) ≡ s
