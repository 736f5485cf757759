-- To be believed: operators on values (Java Language Specification 15.15 to 15.24), by which constants are evaluated and code is
-- run.
use Rattle.std.specs.Prelude.{ℕ, ◌*◌, ◌/◌, ◌%◌, ◌^◌, Bool, true, false, ◌&&◌, ◌||◌, not, nat_eq, ℤ, pos, ◌+ℤ◌, ◌-ℤ◌, ◌*ℤ◌, neg_ℤ, int_lt, int_le, int_div, int_rem, bit_and, bit_or, bit_xor, if◌then◌else◌, Result, Ok, Err}
use Rattle.kr_ast.specs.declared.node.UnaryOperator.{UnaryOperator}
use Rattle.kr_ast.specs.declared.node.UnaryOperator.TheVariants.{Plus, Minus, Complement, Not}
use Rattle.kr_ast.specs.declared.node.BinaryOperator.{BinaryOperator}
use Rattle.kr_ast.specs.declared.node.BinaryOperator.TheVariants.{Multiply, Divide, Remainder, Add, Subtract, ShiftLeft, ShiftRight, ShiftRightUnsigned, Less, Greater, LessOrEqual, GreaterOrEqual, Equal, NotEqual, BitAnd, BitXor, BitOr, And, Or}
use Rattle.kr_value.specs.declared.value.Value.{Value}
use Rattle.kr_value.specs.declared.value.Value.TheVariants.{Int, Bool as Truth, Null, Ref as Reference}
use Rattle.kr_classes_table.specs.declared.errors.OperatorError.{OperatorError}
use Rattle.kr_classes_table.specs.declared.errors.OperatorError.TheVariants.{ZeroDivisor, NotDefined}
use Rattle.kr_classes_table.specs.Numbers.{Width, wider, span, bits, whole_of, wrap, complement, shifted_right, distance}

-- its value, or why there is none
abbrev pub Applied : Type 0
Applied = Result Value OperatorError

-- ---- whole numbers

-- the value of a number of a width
abbrev pub number : Width → ℤ → Value
number w z = Int z

abbrev pub whole : Width → ℤ → Applied
whole w z = Ok (number w (wrap w z))

abbrev pub of_bits : Width → ℕ → Applied
of_bits w n = Ok (number w (whole_of w n))

abbrev pub truth : Bool → Applied
truth b = Ok (Truth b)

abbrev pub is_zero : ℤ → Bool
is_zero (pos n) = nat_eq n 0
is_zero z = false

abbrev pub divided : ℤ → Applied → Applied
divided b r = if is_zero b then Err ZeroDivisor else r

abbrev pub is_equal : ℤ → ℤ → Bool
is_equal a b = int_le a b && int_le b a

-- Both operands are of one width. So is the result, but a comparison's.
abbrev pub of_wholes : Width → BinaryOperator → ℤ → ℤ → Applied
of_wholes w Multiply a b = whole w (a *ℤ b)
of_wholes w Divide a b = divided b (whole w (int_div a b))
of_wholes w Remainder a b = divided b (whole w (int_rem a b))
of_wholes w Add a b = whole w (a +ℤ b)
of_wholes w Subtract a b = whole w (a -ℤ b)
of_wholes w ShiftLeft a b = of_bits w (bits w a * 2 ^ distance w b % span w)
of_wholes w ShiftRight a b = whole w (shifted_right a (distance w b))
of_wholes w ShiftRightUnsigned a b = of_bits w (bits w a / 2 ^ distance w b)
of_wholes w Less a b = truth (int_lt a b)
of_wholes w Greater a b = truth (int_lt b a)
of_wholes w LessOrEqual a b = truth (int_le a b)
of_wholes w GreaterOrEqual a b = truth (int_le b a)
of_wholes w Equal a b = truth (is_equal a b)
of_wholes w NotEqual a b = truth (not (is_equal a b))
of_wholes w BitAnd a b = of_bits w (bit_and (bits w a) (bits w b))
of_wholes w BitXor a b = of_bits w (bit_xor (bits w a) (bits w b))
of_wholes w BitOr a b = of_bits w (bit_or (bits w a) (bits w b))
of_wholes w o a b = Err NotDefined

-- ---- booleans, references and null

abbrev pub agree : Bool → Bool → Bool
agree true b = b
agree false b = not b

abbrev pub of_booleans : BinaryOperator → Bool → Bool → Applied
of_booleans Equal a b = truth (agree a b)
of_booleans NotEqual a b = truth (not (agree a b))
of_booleans BitAnd a b = truth (a && b)
of_booleans BitXor a b = truth (not (agree a b))
of_booleans BitOr a b = truth (a || b)
of_booleans And a b = truth (a && b)
of_booleans Or a b = truth (a || b)
of_booleans o a b = Err NotDefined

-- references that are the same, or aren't (15.21.3)
abbrev pub of_references : BinaryOperator → Bool → Applied
of_references Equal same = truth same
of_references NotEqual same = truth (not same)
of_references o same = Err NotDefined

-- ---- values, of which numbers have a width

abbrev pub apply : Width → BinaryOperator → Value → Value → Applied
apply w o (Int a) (Int b) = of_wholes w o a b
apply w o (Truth a) (Truth b) = of_booleans o a b
apply w o Null Null = of_references o true
apply w o Null (Reference p) = of_references o false
apply w o (Reference p) Null = of_references o false
apply w o (Reference p) (Reference q) = of_references o (nat_eq p q)
apply w o u v = Err NotDefined

abbrev pub apply_alone : Width → UnaryOperator → Value → Applied
apply_alone w Plus (Int a) = whole w a
apply_alone w Minus (Int a) = whole w (neg_ℤ a)
apply_alone w Complement (Int a) = whole w (complement a)
apply_alone w Not (Truth a) = truth (not a)
apply_alone w o v = Err NotDefined

-- the number of a width that a number leaves (5.1.3); other values stay
abbrev pub converted : Width → Value → Value
converted w (Int z) = number w (wrap w z)
converted w v = v

-- the width of the numbers of an operator, from those of its operands: of a shift the left one's (15.19), else that to which both
-- are promoted (5.6.2)
abbrev pub operator_width : BinaryOperator → Width → Width → Width
operator_width ShiftLeft v w = v
operator_width ShiftRight v w = v
operator_width ShiftRightUnsigned v w = v
operator_width o v w = wider v w
