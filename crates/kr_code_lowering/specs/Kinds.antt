-- Between crates: kinds of nodes.
use Rattle.std.specs.Prelude.{◌≡◌, ℕ, Bool, true, false, List, [], ◌∷◌}
use Rattle.kr_ast.specs.declared.node.Node.{Node}
use Rattle.kr_ast.specs.declared.node.Node.TheVariants as nodes
use Rattle.kr_ast.specs.Tree as trees
use Rattle.kr_ast.specs.Tree.{Tree}
use Rattle.kr_ast.specs.declared.node.BinaryOperator.{BinaryOperator}
use Rattle.kr_ast.specs.declared.node.UnaryOperator.TheVariants.{Plus}
use Rattle.kr_types_meaning.specs.Scopes.{Scope}
use Rattle.kr_base.specs.declared.place.Place.{Place}
use Rattle.kr_ast.specs.Arena.{parts, tree_of}
use Rattle.kr_classes_table.specs.Numbers.{Width}
use Rattle.kr_classes_table.specs.Types.{JavaType, NumberType}
use Rattle.kr_mean.specs.Program.{Program}
use Rattle.kr_mean.specs.Meaning.{width_of}
use Rattle.kr_mean.specs.Operators.{unary_operation}
use Rattle.kr_code.specs.declared.code.Code.{Code}
use Rattle.kr_code.specs.declared.expression.Expression.{Expression}
use Rattle.kr_code.specs.declared.expression.Expression.TheVariants as expressions
use Rattle.kr_code.specs.Resolved.{Numbering, IsPart, IsExpression}
use Rattle.kr_code_lowering.specs.declared.coding.Coding.{Coding}
use Rattle.kr_code_lowering.specs.declared.coding.Coding.TheVariants as codings

-- whether a node of this coding has code at all, and whether it is no expression
abbrev pub is_coded : Coding → Bool
is_coded codings.Nothing = false
is_coded c = true

abbrev pub is_apart : Coding → Bool
is_apart codings.Expression = false
is_apart c = true

-- made of values in the scope of the whole, but no operator on numbers
abbrev pub is_operator : Node → Bool
is_operator (nodes.Truth v) = true
is_operator nodes.Null = true
is_operator nodes.This = true
is_operator (nodes.ArrayAccess a b) = true
is_operator (nodes.Conditional a b c) = true
is_operator nodes.Result = true
is_operator n = false

-- the nodes' numbers are those of their trees
abbrev pub IsNumbered : Numbering → Scope → (ℕ → Tree) → (ℕ → ℕ) → List ℕ → Type 0
IsNumbered n s look number [] = Unit {0}
IsNumbered n s look number (c ∷ cs) = IsPart n s (look c) (number c) × IsNumbered n s look number cs

-- an operator between two operands, at the width of their types
abbrev pub IsBinary : BinaryOperator → Width → ℕ → ℕ → Expression → Type 0
IsBinary o w i j e =
    (program : Program) (code : Code) (n : Numbering) (s : Scope) (p : Place) (a b : Tree) → w ≡ width_of s o a b → IsPart n s a i → IsPart n s b j → IsExpression program code n s (trees.Binary p o a b) e

-- the resolved form of an operator's node, wherever its parts have these numbers
abbrev pub IsOperation : (ℕ → ℕ) → Place → Node → Expression → Type 0
IsOperation number place node e =
    (program : Program) (code : Code) (n : Numbering) (s : Scope) (text : List ℕ) (look : ℕ → Tree) → is_operator node ≡ true → IsNumbered n s look number (parts node) → IsExpression program code n s (tree_of text look place node) e

-- a cast to a primitive type by its number
abbrev pub IsPrimitiveCast : JavaType → ℕ → ℕ → Expression → Type 0
IsPrimitiveCast (NumberType w) k i e = e ≡ expressions.Unary (unary_operation w Plus) i
IsPrimitiveCast t k i e = e ≡ expressions.Convert k i
