-- To be believed: operators in code that runs: those on values, where a zero divisor traps.
use Rattle.std.specs.Prelude.{ℤ, pos, Bool, true, false, not, int_lt, Option, Some, None, Result, Ok, Err}
use Rattle.kr_ast.specs.declared.node.BinaryOperator.{BinaryOperator}
use Rattle.kr_ast.specs.declared.node.BinaryOperator.TheVariants.{Less, LessOrEqual, Greater, GreaterOrEqual, Equal, NotEqual, Add, Subtract}
use Rattle.kr_ast.specs.declared.node.UnaryOperator.{UnaryOperator}
use Rattle.kr_ast.specs.declared.node.StepOperator.{StepOperator}
use Rattle.kr_ast.specs.declared.node.StepOperator.TheVariants.{IncrementBefore, DecrementBefore, IncrementBehind, DecrementBehind}
use Rattle.kr_value.specs.declared.value.Value.{Value}
use Rattle.kr_value.specs.declared.value.Value.TheVariants.{Int}
use Rattle.kr_classes_table.specs.declared.errors.OperatorError.TheVariants.{ZeroDivisor, NotDefined}
use Rattle.kr_classes_table.specs.Numbers.{Width}
use Rattle.kr_classes_table.specs.Operators.{Applied, apply, apply_alone, converted}
use Rattle.kr_mean.specs.declared.operations.BinaryOperation.{BinaryOperation}
use Rattle.kr_mean.specs.declared.operations.UnaryOperation.{UnaryOperation}
use Rattle.kr_mean.specs.declared.operations.StepOperation.{StepOperation}
use Rattle.kr_mean.specs.declared.kind.Kind.TheVariants.{ArithmeticException}
use Rattle.kr_mean.specs.declared.kind.Stop.{Stop}
use Rattle.kr_mean.specs.declared.kind.Stop.TheVariants.{Trapped, Stuck}
use Rattle.kr_mean.specs.Collections.{is_same_value}

-- a zero divisor traps (15.17.2, 15.17.3)
abbrev pub said : Applied → Result Value Stop
said (Ok v) = Ok v
said (Err ZeroDivisor) = Err (Trapped ArithmeticException)
said (Err NotDefined) = Err Stuck

-- a compound assignment converts the result to the width of its target (15.26.2)
abbrev pub into : Option Width → Applied → Applied
into (Some w) (Ok v) = Ok (converted w v)
into w r = r

abbrev pub operated : BinaryOperation → Value → Value → Result Value Stop
operated o v w = said (into o.assigned (apply o.width o.operator v w))

abbrev pub operated_alone : UnaryOperation → Value → Result Value Stop
operated_alone o v = said (apply_alone o.width o.operator v)

abbrev pub binary_operation : Width → BinaryOperator → BinaryOperation
binary_operation w o = record { operator = o; width = w; assigned = None }

-- of a compound assignment to a target of a width
abbrev pub compound_operation : Width → Width → BinaryOperator → BinaryOperation
compound_operation to w o = record { operator = o; width = w; assigned = Some to }

abbrev pub unary_operation : Width → UnaryOperator → UnaryOperation
unary_operation w o = record { operator = o; width = w }

abbrev pub step_operation : Width → StepOperator → StepOperation
step_operation w o = record { operator = o; width = w }

-- `++` and `--`: by which operator with 1, and whether the value before is given (15.14, 15.15)
abbrev pub step_operator : StepOperator → BinaryOperator
step_operator IncrementBefore = Add
step_operator IncrementBehind = Add
step_operator DecrementBefore = Subtract
step_operator DecrementBehind = Subtract

abbrev pub step_binary : StepOperation → BinaryOperation
step_binary o = binary_operation o.width (step_operator o.operator)

abbrev pub gives_old : StepOperator → Bool
gives_old IncrementBehind = true
gives_old DecrementBehind = true
gives_old o = false

-- ---- comparisons of numbers

abbrev pub is_comparison : BinaryOperator → Bool
is_comparison Less = true
is_comparison LessOrEqual = true
is_comparison Greater = true
is_comparison GreaterOrEqual = true
is_comparison Equal = true
is_comparison NotEqual = true
is_comparison o = false

abbrev pub int_in : Value → ℤ
int_in (Int n) = n
int_in v = pos 0

-- the result of a comparison
abbrev pub holds_of : BinaryOperator → Value → Value → Bool
holds_of Less v w = int_lt (int_in v) (int_in w)
holds_of LessOrEqual v w = not (int_lt (int_in w) (int_in v))
holds_of Greater v w = int_lt (int_in w) (int_in v)
holds_of GreaterOrEqual v w = not (int_lt (int_in v) (int_in w))
holds_of Equal v w = is_same_value v w
holds_of NotEqual v w = not (is_same_value v w)
holds_of o v w = false
