-- Between crates: what a node is resolved to as a statement.
use Rattle.std.specs.Prelude.{◌≡◌, ℕ, Bool, true, false, List, Option, Some, None}
use Rattle.kr_base.specs.declared.place.Place.{Place}
use Rattle.kr_ast.specs.Tree as trees
use Rattle.kr_ast.specs.Tree.{Tree}
use Rattle.kr_ast.specs.Arena.{parts, tree_of}
use Rattle.kr_ast.specs.declared.node.Node.{Node}
use Rattle.kr_ast.specs.declared.node.Node.TheVariants as nodes
use Rattle.kr_types_meaning.specs.Scopes.{Scope, Locals}
use Rattle.kr_types_meaning.specs.Running.{running}
use Rattle.kr_types.specs.declared.program.Program.{Program}
use Rattle.kr_code.specs.declared.code.Code.{Code}
use Rattle.kr_code.specs.declared.statement.Declarator.{Declarator}
use Rattle.kr_code.specs.declared.statement.Catch.{Catch}
use Rattle.kr_code.specs.declared.statement.Statement.{Statement}
use Rattle.kr_code.specs.Tables.{catch_of, declarator_of, node_at}
use Rattle.kr_code.specs.Resolved.{Numbering, IsCatch, IsDeclarator, IsStatement}
use Rattle.kr_code_lowering.specs.declared.site.Site.{Site}
use Rattle.kr_code_lowering.specs.Origins.{Final, numbering_of, origin_of}
use Rattle.kr_code_lowering.specs.Sites.{Becomes, scope_at, tree_at}
use Rattle.kr_code_lowering.specs.Kinds.{IsNumbered}

-- the declarators of locals and the catches are those of the code
pub record AreDeclared (p : Program) (final : Final) (code : Code) : Type 0 where
  pub locals : (i : ℕ) → (origin_of p final.nodes i).scope.declaring ≡ Locals → IsDeclarator (numbering_of p final) (origin_of p final.nodes i).scope (origin_of p final.nodes i).tree (declarator_of (node_at code i))
  pub catches : (i : ℕ) → IsCatch (numbering_of p final) (origin_of p final.nodes i).scope (origin_of p final.nodes i).tree (catch_of (node_at code i))

-- it is the resolved form of the node's statement, in whatever code this becomes
abbrev pub Does : Program → Site → List (List ℕ) → List ℕ → Statement → Type 0
Does p s known linked x =
    (final : Final) (code : Code) → Becomes p known linked final code → AreDeclared p final code → IsStatement code (numbering_of p final) (running (scope_at p s)) (tree_at p s) x

-- the number of a part that may be absent
abbrev pub IsMaybe : Tree → ℕ → Option ℕ → Type 0
IsMaybe t i None = t ≡ trees.Nil
IsMaybe t i (Some k) = (k ≡ i) × (t ≡ trees.Nil → ⊥)

-- made of parts in the scope of the whole
abbrev pub is_plain : Node → Bool
is_plain nodes.Empty = true
is_plain nodes.Break = true
is_plain nodes.Continue = true
is_plain (nodes.ExpressionStatement e) = true
is_plain (nodes.IfThen c a) = true
is_plain (nodes.IfElse c a b) = true
is_plain (nodes.While c a) = true
is_plain (nodes.Do a c) = true
is_plain (nodes.Throw e) = true
is_plain n = false

-- the resolved form of a plain statement's node, wherever its parts have these numbers
abbrev pub IsPlain : (ℕ → ℕ) → Node → Statement → Type 0
IsPlain number node x =
    (code : Code) (n : Numbering) (s : Scope) (text : List ℕ) (look : ℕ → Tree) (place : Place) → is_plain node ≡ true → IsNumbered n s look number (parts node) → IsStatement code n s (tree_of text look place node) x

-- the node's declarator, where it declares a local
abbrev pub Declares : Program → Site → Declarator → Type 0
Declares p s d = (scope_at p s).declaring ≡ Locals → (final : Final) → IsDeclarator (numbering_of p final) (running (scope_at p s)) (tree_at p s) (Some d)

-- it is the node's catch
abbrev pub Catches : Program → Site → Catch → Type 0
Catches p s c = (final : Final) → IsCatch (numbering_of p final) (running (scope_at p s)) (tree_at p s) (Some c)
