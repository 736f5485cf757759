-- To be believed: the meaning of tokens for the grammar: their operators and how tightly these bind.
use Rattle.std.specs.Prelude.{ℕ, List, Bool, true, false, Option, Some, None, codes}
use Rattle.kr_lex.specs.declared.kind.Kind.{Kind}
use Rattle.kr_lex.specs.declared.kind.Kind.TheVariants as kinds
use Rattle.kr_ast.specs.declared.node.Primitive.{Primitive}
use Rattle.kr_ast.specs.declared.node.Primitive.TheVariants as primitives
use Rattle.kr_ast.specs.declared.node.UnaryOperator.{UnaryOperator}
use Rattle.kr_ast.specs.declared.node.UnaryOperator.TheVariants as unaries
use Rattle.kr_ast.specs.declared.node.StepOperator.{StepOperator}
use Rattle.kr_ast.specs.declared.node.StepOperator.TheVariants as steps
use Rattle.kr_ast.specs.declared.node.BinaryOperator.{BinaryOperator}
use Rattle.kr_ast.specs.declared.node.BinaryOperator.TheVariants as binaries

abbrev pub primitive_of : Kind → Option Primitive
primitive_of kinds.Int = Some primitives.Int
primitive_of kinds.Long = Some primitives.Long
primitive_of kinds.Boolean = Some primitives.Boolean
primitive_of _ = None

-- `+` and `-` before an operand
abbrev pub sign_of : Kind → Option UnaryOperator
sign_of kinds.Plus = Some unaries.Plus
sign_of kinds.Minus = Some unaries.Minus
sign_of _ = None

-- `++` and `--`, before and after their operand
abbrev pub step_before : Kind → Option StepOperator
step_before kinds.PlusPlus = Some steps.IncrementBefore
step_before kinds.MinusMinus = Some steps.DecrementBefore
step_before _ = None

abbrev pub step_behind : Kind → Option StepOperator
step_behind kinds.PlusPlus = Some steps.IncrementBehind
step_behind kinds.MinusMinus = Some steps.DecrementBehind
step_behind _ = None

-- `~` and `!`
abbrev pub complement_of : Kind → Option UnaryOperator
complement_of kinds.Tilde = Some unaries.Complement
complement_of kinds.Exclamation = Some unaries.Not
complement_of _ = None

-- the operators between two operands
abbrev pub binary_of : Kind → Option BinaryOperator
binary_of kinds.Star = Some binaries.Multiply
binary_of kinds.Slash = Some binaries.Divide
binary_of kinds.Percent = Some binaries.Remainder
binary_of kinds.Plus = Some binaries.Add
binary_of kinds.Minus = Some binaries.Subtract
binary_of kinds.LessLess = Some binaries.ShiftLeft
binary_of kinds.GreaterGreater = Some binaries.ShiftRight
binary_of kinds.GreaterGreaterGreater = Some binaries.ShiftRightUnsigned
binary_of kinds.Less = Some binaries.Less
binary_of kinds.Greater = Some binaries.Greater
binary_of kinds.LessEqual = Some binaries.LessOrEqual
binary_of kinds.GreaterEqual = Some binaries.GreaterOrEqual
binary_of kinds.EqualEqual = Some binaries.Equal
binary_of kinds.ExclamationEqual = Some binaries.NotEqual
binary_of kinds.Ampersand = Some binaries.BitAnd
binary_of kinds.Caret = Some binaries.BitXor
binary_of kinds.Bar = Some binaries.BitOr
binary_of kinds.AmpersandAmpersand = Some binaries.And
binary_of kinds.BarBar = Some binaries.Or
binary_of _ = None

-- how tightly an operator binds; `instanceof` binds as the comparisons do
abbrev pub level : BinaryOperator → ℕ
level binaries.Or = 1
level binaries.And = 2
level binaries.BitOr = 3
level binaries.BitXor = 4
level binaries.BitAnd = 5
level binaries.Equal = 6
level binaries.NotEqual = 6
level binaries.Less = 7
level binaries.Greater = 7
level binaries.LessOrEqual = 7
level binaries.GreaterOrEqual = 7
level binaries.ShiftLeft = 8
level binaries.ShiftRight = 8
level binaries.ShiftRightUnsigned = 8
level binaries.Add = 9
level binaries.Subtract = 9
level binaries.Multiply = 10
level binaries.Divide = 10
level binaries.Remainder = 10

-- the operator of a compound assignment
abbrev pub compound_of : Kind → Option BinaryOperator
compound_of kinds.PlusEqual = Some binaries.Add
compound_of kinds.MinusEqual = Some binaries.Subtract
compound_of kinds.StarEqual = Some binaries.Multiply
compound_of kinds.SlashEqual = Some binaries.Divide
compound_of kinds.PercentEqual = Some binaries.Remainder
compound_of kinds.AmpersandEqual = Some binaries.BitAnd
compound_of kinds.BarEqual = Some binaries.BitOr
compound_of kinds.CaretEqual = Some binaries.BitXor
compound_of kinds.LessLessEqual = Some binaries.ShiftLeft
compound_of kinds.GreaterGreaterEqual = Some binaries.ShiftRight
compound_of kinds.GreaterGreaterGreaterEqual = Some binaries.ShiftRightUnsigned
compound_of _ = None

abbrev pub is_access : Kind → Bool
is_access kinds.Public = true
is_access kinds.Protected = true
is_access kinds.Private = true
is_access _ = false

abbrev pub java : List ℕ
java = codes "java"

abbrev pub util : List ℕ
util = codes "util"

abbrev pub override : List ℕ
override = codes "Override"
