-- Between crates: a node of a file by the numbers of the code, and what it is resolved to.
use Rattle.std.specs.Prelude.{◌≡◌, ℕ, ◌+◌, ◌<◌, List, length, Some, slice_get}
use Rattle.kr_ast.specs.Tree.{Tree}
use Rattle.kr_ast.specs.Arena.{Arena, ArePartsFrom, AreNamesIn, names, parts, tree_in, tree_of}
use Rattle.kr_ast.specs.declared.node.Entry.{Entry}
use Rattle.kr_types_meaning.specs.Scopes.{Scope}
use Rattle.kr_types_meaning.specs.Running.{running}
use Rattle.kr_ast.specs.Files.{file_at}
use Rattle.kr_classes_names.specs.ListedTypes.{IsGrown}
use Rattle.kr_types.specs.declared.program.Program.{Program}
use Rattle.kr_code.specs.declared.code.Code.{Code}
use Rattle.kr_code.specs.declared.expression.Expression.{Expression}
use Rattle.kr_code.specs.Resolved.{IsExpression}
use Rattle.kr_classes_members.specs.Rosters.{all_methods}
use Rattle.kr_code_lowering.specs.declared.site.Site.{Site}
use Rattle.kr_code_members.specs.Nodes.{run_program, table}
use Rattle.kr_code_lowering.specs.Origins.{Final, first_node, node_scope, node_tree, number_of, numbering_of}

abbrev pub arena_at : Program → Site → Arena
arena_at p s = file_at p.trees.items s.file

-- the scope that typing has of the node
abbrev pub scope_at : Program → Site → Scope
scope_at p s = node_scope p s.file s.node

abbrev pub tree_at : Program → Site → Tree
tree_at p s = node_tree p s.file s.node

-- the number that code has for another node of the file
abbrev pub number_at : Program → Site → ℕ → ℕ
number_at p s c = number_of p (s.first + c)

-- the node is there, and the place is that of its file's first node
pub record IsSite (p : Program) (s : Site) : Type 0 where
  pub file : s.file < length p.trees.items
  pub node : s.node < length (arena_at p s).entries
  pub first : s.first ≡ first_node p.trees.items s.file

-- the node with its parts and names
pub record IsHere (p : Program) (s : Site) (e : Entry) : Type 0 where
  pub site : IsSite p s
  pub here : slice_get (arena_at p s).entries s.node ≡ Some e
  pub tree : tree_at p s ≡ tree_of (arena_at p s).text (tree_in (arena_at p s)) e.place e.node
  pub parts : ArePartsFrom (arena_at p s).entries s.node 0 (parts e.node)
  pub names : AreNamesIn (arena_at p s).text (names e.node)

-- ---- while code is made

-- these names and links become those of the code: there are more by then, and all methods and classes
pub record Becomes (p : Program) (known : List (List ℕ)) (linked : List ℕ) (final : Final) (code : Code) : Type 0 where
  pub names : IsGrown known final.names
  pub links : IsGrown linked code.links.items
  pub methods : length code.methods.items ≡ length (all_methods (table p))
  pub classes : length code.classes.items ≡ length (table p).classes

-- it is the resolved form of the node's expression, in whatever code this becomes
abbrev pub Resolves : Program → List ℕ → Site → List (List ℕ) → List ℕ → Expression → Type 0
Resolves p arrays s known linked e =
    (final : Final) (code : Code) → Becomes p known linked final code → IsExpression (run_program p arrays) code (numbering_of p final) (running (scope_at p s)) (tree_at p s) e
