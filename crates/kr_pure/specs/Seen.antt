-- Between crates: the nodes of code, as a walk by parts sees them.
use Rattle.std.specs.Prelude.{◌≡◌, ℕ, List, [], ◌∷◌, Option, Some, option_and_then, slice_get}
use Rattle.kr_ast.specs.Tree as trees
use Rattle.kr_ast.specs.Tree.{Tree}
use Rattle.kr_types_meaning.specs.Scopes.{Scope}
use Rattle.kr_types_meaning.specs.Running.{running}
use Rattle.kr_types_meaning.specs.Handing.{handed}
use Rattle.kr_types_meaning.specs.Noting.{parts_of}
use Rattle.kr_mean.specs.Code.{Node, code}
use Rattle.kr_mean.specs.Purity.{IsOneOf}
use Rattle.kr_laws_types.specs.Derivation.{AreExpressions, AreStatements, IsExpression, MayBeExpression, MayCallSuper}

-- the parts that a walk goes into: nodes in a type are no code
abbrev pub steps_of : Tree → List Tree
steps_of (trees.GenericType p h a) = []
steps_of (trees.DiamondType p h) = []
steps_of (trees.ArrayType p e) = []
steps_of t = parts_of t

-- the part of a part .. of a tree, each by its number, in the scope that is handed to it
abbrev pub node_on : Scope → Tree → List ℕ → Option Node
node_on s t [] = Some (record { scope = s; tree = t })
node_on s t (j ∷ js) = option_and_then (λ u. node_on (handed s t j) u js) (slice_get (steps_of t) j)

-- in the scope that it runs in
abbrev pub run_of : Node → Node
run_of m = record { scope = running m.scope; tree = m.tree }

-- nodes that may write, create or call
abbrev pub IsActing : Tree → Type 0
IsActing (trees.Assignment p a e) = Unit {0}
IsActing (trees.CompoundAssignment p o a e) = Unit {0}
IsActing (trees.Step p o e) = Unit {0}
IsActing (trees.ObjectCreation p t es) = Unit {0}
IsActing (trees.ArrayCreation p t e) = Unit {0}
IsActing (trees.Call p n es) = Unit {0}
IsActing (trees.MethodCall p e n es) = Unit {0}
IsActing (trees.SuperCall p n es) = Unit {0}
IsActing t = ⊥

-- a node of the tree
abbrev pub IsFound : Scope → Tree → Node → Type 0
IsFound s t n = (path : List ℕ) × (m : Node) × (node_on s t path ≡ Some m) × (n ≡ run_of m)

-- Each node of the tree's code is a part of a part .. of it, and each such one that acts is a node of its code.
pub record IsSeen (s : Scope) (t : Tree) : Type 0 where
  pub down : (n : Node) → IsOneOf n (code (running s) t) → IsFound s t n
  pub up : (path : List ℕ) (m : Node) → node_on s t path ≡ Some m → IsActing m.tree → IsOneOf (run_of m) (code (running s) t)

abbrev pub ExpressionLaw : Type 0
ExpressionLaw = (s : Scope) (t : Tree) → IsExpression t → IsSeen s t

abbrev pub ExpressionsLaw : Type 0
ExpressionsLaw = (s : Scope) (t : Tree) → AreExpressions t → IsSeen s t

-- one that may be absent
abbrev pub MaybeLaw : Type 0
MaybeLaw = (s : Scope) (t : Tree) → MayBeExpression t → IsSeen s t

abbrev pub StatementsLaw : Type 0
StatementsLaw = (s : Scope) (t : Tree) → AreStatements t → IsSeen s t

abbrev pub SuperLaw : Type 0
SuperLaw = (s : Scope) (t : Tree) → MayCallSuper t → IsSeen s t
