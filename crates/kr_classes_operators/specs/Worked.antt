-- Between crates: results of operators, worked by hand from the Java Language Specification 15.15 to 15.24, mostly at
-- the limits of `int` and `long`.
use Rattle.std.specs.Prelude.{◌≡◌, ℤ, pos, negsuc, true, false, List, [], ◌∷◌, Some, None, Ok, Err}
use Rattle.kr_ast.specs.declared.node.UnaryOperator.TheVariants.{Plus, Minus, Complement, Not}
use Rattle.kr_ast.specs.declared.node.BinaryOperator.{BinaryOperator}
use Rattle.kr_ast.specs.declared.node.BinaryOperator.TheVariants.{Multiply, Divide, Remainder, Add, Subtract, ShiftLeft, ShiftRight, ShiftRightUnsigned, Less, Greater, LessOrEqual, GreaterOrEqual, Equal, NotEqual, BitAnd, BitXor, BitOr, And, Or}
use Rattle.kr_value.specs.declared.value.Value.TheVariants.{Int, Bool as Truth, Null, Ref as Reference}
use Rattle.kr_classes_table.specs.declared.errors.OperatorError.TheVariants.{ZeroDivisor, NotDefined}
use Rattle.kr_classes_table.specs.Numbers.{Bits32, Bits64}
use Rattle.kr_classes_table.specs.Operators.{Applied, apply, apply_alone, converted}
use Rattle.kr_classes_table.specs.Constants.{binary_value, chosen}

-- -n
abbrev pub minus_one : ℤ
minus_one = negsuc 0

abbrev pub least : ℤ
least = negsuc 2147483647

abbrev pub greatest : ℤ
greatest = pos 2147483647

abbrev pub least_long : ℤ
least_long = negsuc 9223372036854775807

abbrev pub greatest_long : ℤ
greatest_long = pos 9223372036854775807

abbrev pub on_longs : BinaryOperator → ℤ → ℤ → Applied
on_longs o a b = apply Bits64 o (Int a) (Int b)

abbrev pub on_ints : BinaryOperator → ℤ → ℤ → Applied
on_ints o a b = apply Bits32 o (Int a) (Int b)

-- -5 with 3, 4 with 4, 3 with -5
abbrev pub compared : BinaryOperator → List Applied
compared o = on_ints o (negsuc 4) (pos 3) ∷ on_ints o (pos 4) (pos 4) ∷ on_ints o (pos 3) (negsuc 4) ∷ []

-- true with true, true with false, false with true, false with false
abbrev pub on_truths : BinaryOperator → List Applied
on_truths o =
    apply Bits32 o (Truth true) (Truth true)
    ∷ apply Bits32 o (Truth true) (Truth false)
    ∷ apply Bits32 o (Truth false) (Truth true)
    ∷ apply Bits32 o (Truth false) (Truth false)
    ∷ []

-- null with null, null with an object, an object with null, with itself, with another one
abbrev pub on_references : BinaryOperator → List Applied
on_references o =
    apply Bits32 o Null Null
    ∷ apply Bits32 o Null (Reference 0)
    ∷ apply Bits32 o (Reference 0) Null
    ∷ apply Bits32 o (Reference 3) (Reference 3)
    ∷ apply Bits32 o (Reference 3) (Reference 4)
    ∷ []

abbrev pub int : ℤ → Applied
int z = Ok (Int z)

abbrev pub holds : Applied
holds = Ok (Truth true)

abbrev pub fails : Applied
fails = Ok (Truth false)

abbrev pub traps : Applied
traps = Err ZeroDivisor

abbrev pub undefined : Applied
undefined = Err NotDefined

pub record WorkedOperators : Type 0 where
  -- one operand
  pub plus : apply_alone Bits32 Plus (Int least) ≡ int least
  pub minus : apply_alone Bits32 Minus (Int (pos 5)) ≡ int (negsuc 4)
  pub minus_least : apply_alone Bits32 Minus (Int least) ≡ int least
  pub complement : apply_alone Bits32 Complement (Int (pos 7)) ≡ int (negsuc 7)
  pub minus_negative : apply_alone Bits32 Minus (Int (negsuc 4)) ≡ int (pos 5)
  pub complement_least : apply_alone Bits32 Complement (Int least) ≡ int greatest
  pub «not» : apply_alone Bits32 Not (Truth true) ≡ fails
  pub not_false : apply_alone Bits32 Not (Truth false) ≡ holds
  pub not_of_int : apply_alone Bits32 Not (Int (pos 1)) ≡ undefined
  pub minus_of_truth : apply_alone Bits32 Minus (Truth true) ≡ undefined
  -- sums and products wrap
  pub sum : on_ints Add (negsuc 6) (pos 3) ≡ int (negsuc 3)
  pub difference : on_ints Subtract (pos 3) (negsuc 6) ≡ int (pos 10)
  pub over : on_ints Add greatest (pos 1) ≡ int least
  pub under : on_ints Subtract least (pos 1) ≡ int greatest
  pub least_less_itself : on_ints Subtract (pos 0) least ≡ int least
  pub squared : on_ints Multiply (pos 65536) (pos 65536) ≡ int (pos 0)
  pub half : on_ints Multiply (pos 65536) (pos 32768) ≡ int least
  pub greatest_squared : on_ints Multiply greatest greatest ≡ int (pos 1)
  pub opposite : on_ints Multiply least minus_one ≡ int least
  pub mixed : on_ints Multiply (negsuc 2) (pos 4) ≡ int (negsuc 11)
  -- quotients are rounded toward zero, remainders have the dividend's sign
  pub divided : on_ints Divide (negsuc 6) (pos 2) ≡ int (negsuc 2)
  pub divided_by_negative : on_ints Divide (pos 7) (negsuc 1) ≡ int (negsuc 2)
  pub negatives_divided : on_ints Divide (negsuc 6) (negsuc 1) ≡ int (pos 3)
  pub least_divided : on_ints Divide least minus_one ≡ int least
  pub by_zero : on_ints Divide (pos 1) (pos 0) ≡ traps
  pub left_over : on_ints Remainder (negsuc 6) (pos 4) ≡ int (negsuc 2)
  pub left_over_by_negative : on_ints Remainder (pos 7) (negsuc 3) ≡ int (pos 3)
  pub least_left_over : on_ints Remainder least minus_one ≡ int (pos 0)
  pub left_over_by_zero : on_ints Remainder (pos 0) (pos 0) ≡ traps
  -- shifts go by the low five bits of the distance
  pub left_31 : on_ints ShiftLeft (pos 1) (pos 31) ≡ int least
  pub left_32 : on_ints ShiftLeft (pos 1) (pos 32) ≡ int (pos 1)
  pub left_33 : on_ints ShiftLeft (pos 1) (pos 33) ≡ int (pos 2)
  pub left_by_negative : on_ints ShiftLeft (pos 3) minus_one ≡ int least
  pub left_lost : on_ints ShiftLeft greatest (pos 1) ≡ int (negsuc 1)
  pub right : on_ints ShiftRight (negsuc 8) (pos 1) ≡ int (negsuc 4)
  pub right_31 : on_ints ShiftRight least (pos 31) ≡ int minus_one
  pub right_32 : on_ints ShiftRight least (pos 32) ≡ int least
  pub right_33 : on_ints ShiftRight greatest (pos 33) ≡ int (pos 1073741823)
  pub right_by_negative : on_ints ShiftRight least minus_one ≡ int minus_one
  pub unsigned : on_ints ShiftRightUnsigned minus_one (pos 1) ≡ int greatest
  pub unsigned_31 : on_ints ShiftRightUnsigned least (pos 31) ≡ int (pos 1)
  pub unsigned_32 : on_ints ShiftRightUnsigned minus_one (pos 32) ≡ int minus_one
  pub unsigned_33 : on_ints ShiftRightUnsigned least (pos 33) ≡ int (pos 1073741824)
  pub unsigned_by_negative : on_ints ShiftRightUnsigned minus_one minus_one ≡ int (pos 1)
  -- comparisons know signs
  pub less : compared Less ≡ holds ∷ fails ∷ fails ∷ []
  pub greater : compared Greater ≡ fails ∷ fails ∷ holds ∷ []
  pub at_most : compared LessOrEqual ≡ holds ∷ holds ∷ fails ∷ []
  pub at_least : compared GreaterOrEqual ≡ fails ∷ holds ∷ holds ∷ []
  pub equal : compared Equal ≡ fails ∷ holds ∷ fails ∷ []
  pub unequal : compared NotEqual ≡ holds ∷ fails ∷ holds ∷ []
  pub edges : on_ints Less greatest least ≡ fails
  pub negatives : on_ints Less (negsuc 4) (negsuc 3) ≡ holds
  pub same_digits : on_ints Equal (pos 1) (negsuc 1) ≡ fails
  -- bit by bit
  pub both : on_ints BitAnd (pos 12) (pos 10) ≡ int (pos 8)
  pub both_negative : on_ints BitAnd minus_one least ≡ int least
  pub either : on_ints BitOr (pos 12) least ≡ int (negsuc 2147483635)
  pub either_positive : on_ints BitOr (pos 12) (pos 10) ≡ int (pos 14)
  pub differing : on_ints BitXor (pos 12) (pos 10) ≡ int (pos 6)
  pub differing_negative : on_ints BitXor minus_one greatest ≡ int least
  pub and_of_ints : on_ints And (pos 1) (pos 1) ≡ undefined
  pub or_of_ints : on_ints Or (pos 1) (pos 1) ≡ undefined
  -- longs wrap in 64 bits
  pub long_plus : apply_alone Bits64 Plus (Int least_long) ≡ int least_long
  pub long_minus : apply_alone Bits64 Minus (Int least) ≡ int (pos 2147483648)
  pub long_minus_least : apply_alone Bits64 Minus (Int least_long) ≡ int least_long
  pub long_complement : apply_alone Bits64 Complement (Int greatest_long) ≡ int least_long
  pub long_sum : on_longs Add greatest (pos 1) ≡ int (pos 2147483648)
  pub long_over : on_longs Add greatest_long (pos 1) ≡ int least_long
  pub long_under : on_longs Subtract least_long (pos 1) ≡ int greatest_long
  pub long_squared : on_longs Multiply (pos 65536) (pos 65536) ≡ int (pos 4294967296)
  pub long_squared_over : on_longs Multiply (pos 4294967296) (pos 4294967296) ≡ int (pos 0)
  pub long_opposite : on_longs Multiply least_long minus_one ≡ int least_long
  pub long_divided : on_longs Divide least_long minus_one ≡ int least_long
  pub long_left_over : on_longs Remainder least_long minus_one ≡ int (pos 0)
  pub long_by_zero : on_longs Divide least_long (pos 0) ≡ traps
  pub long_left_over_by_zero : on_longs Remainder (pos 1) (pos 0) ≡ traps
  -- shifts of longs go by the low six bits of the distance, which of an int and of a long are the same
  pub long_left_33 : on_longs ShiftLeft (pos 1) (pos 33) ≡ int (pos 8589934592)
  pub long_left_63 : on_longs ShiftLeft (pos 1) (pos 63) ≡ int least_long
  pub long_left_64 : on_longs ShiftLeft (pos 1) (pos 64) ≡ int (pos 1)
  pub long_left_by_negative : on_longs ShiftLeft (pos 3) minus_one ≡ int least_long
  pub long_right_63 : on_longs ShiftRight least_long (pos 63) ≡ int minus_one
  pub long_right_64 : on_longs ShiftRight least_long (pos 64) ≡ int least_long
  pub long_unsigned : on_longs ShiftRightUnsigned minus_one (pos 1) ≡ int greatest_long
  pub long_unsigned_63 : on_longs ShiftRightUnsigned least_long (pos 63) ≡ int (pos 1)
  pub long_unsigned_by_negative : on_longs ShiftRightUnsigned minus_one minus_one ≡ int (pos 1)
  pub int_left_far : on_ints ShiftLeft (pos 1) (pos 4294967296) ≡ int (pos 1)
  pub int_right_far : on_ints ShiftRight least least_long ≡ int least
  -- comparisons and bits of longs
  pub long_edges : on_longs Less least_long greatest_long ≡ holds
  pub long_beyond : on_longs Greater (pos 2147483648) least ≡ holds
  pub long_unlike : on_longs Equal (pos 4294967296) (pos 0) ≡ fails
  pub long_both : on_longs BitAnd minus_one (pos 4294967296) ≡ int (pos 4294967296)
  pub long_either : on_longs BitOr (pos 4294967296) (pos 1) ≡ int (pos 4294967297)
  pub long_either_negative : on_longs BitOr least_long greatest_long ≡ int minus_one
  pub long_differing : on_longs BitXor minus_one greatest_long ≡ int least_long
  -- a number that is converted to an int keeps its low 32 bits
  pub narrowed : converted Bits32 (Int (pos 8589934592)) ≡ Int (pos 0)
  pub narrowed_over : converted Bits32 (Int (pos 2147483648)) ≡ Int least
  pub narrowed_negative : converted Bits32 (Int least_long) ≡ Int (pos 0)
  pub narrowed_least : converted Bits32 (Int (negsuc 2147483648)) ≡ Int greatest
  pub kept : converted Bits64 (Int least_long) ≡ Int least_long
  pub truth_kept : converted Bits32 (Truth true) ≡ Truth true
  -- booleans
  pub truths_equal : on_truths Equal ≡ holds ∷ fails ∷ fails ∷ holds ∷ []
  pub truths_unequal : on_truths NotEqual ≡ fails ∷ holds ∷ holds ∷ fails ∷ []
  pub truths_both : on_truths BitAnd ≡ holds ∷ fails ∷ fails ∷ fails ∷ []
  pub truths_differ : on_truths BitXor ≡ fails ∷ holds ∷ holds ∷ fails ∷ []
  pub truths_either : on_truths BitOr ≡ holds ∷ holds ∷ holds ∷ fails ∷ []
  pub truths_and : on_truths And ≡ holds ∷ fails ∷ fails ∷ fails ∷ []
  pub truths_or : on_truths Or ≡ holds ∷ holds ∷ holds ∷ fails ∷ []
  pub truths_less : on_truths Less ≡ undefined ∷ undefined ∷ undefined ∷ undefined ∷ []
  pub truths_added : on_truths Add ≡ undefined ∷ undefined ∷ undefined ∷ undefined ∷ []
  -- references and null, and operands that don't fit together
  pub references_equal : on_references Equal ≡ holds ∷ fails ∷ fails ∷ holds ∷ fails ∷ []
  pub references_unequal : on_references NotEqual ≡ fails ∷ holds ∷ holds ∷ fails ∷ holds ∷ []
  pub references_less : on_references Less ≡ undefined ∷ undefined ∷ undefined ∷ undefined ∷ undefined ∷ []
  pub unlike : apply Bits32 Equal (Int (pos 0)) (Truth false) ≡ undefined
  pub unlike_null : apply Bits32 Equal Null (Int (pos 0)) ≡ undefined
  pub unlike_reference : apply Bits32 Equal (Int (pos 0)) (Reference 0) ≡ undefined
  pub divided_truth : apply Bits32 Divide (Truth true) (Int (pos 0)) ≡ undefined
  -- `&&` and `||` need their right operand only where the left one doesn't settle them; `&` needs both
  pub and_settled : binary_value Bits32 And (Some (Truth false)) None ≡ Some (Truth false)
  pub or_settled : binary_value Bits32 Or (Some (Truth true)) None ≡ Some (Truth true)
  pub and_needed : binary_value Bits32 And (Some (Truth true)) None ≡ None
  pub or_needed : binary_value Bits32 Or (Some (Truth false)) (Some (Truth true)) ≡ Some (Truth true)
  pub and_right : binary_value Bits32 And (Some (Truth true)) (Some (Truth false)) ≡ Some (Truth false)
  pub none_divided : binary_value Bits32 Divide (Some (Int (pos 1))) (Some (Int (pos 0))) ≡ None
  pub both_needed : binary_value Bits32 BitAnd (Some (Truth false)) None ≡ None
  pub left_needed : binary_value Bits32 Or None (Some (Truth true)) ≡ None
  -- only the chosen arm of `?:` matters
  pub chosen_first : chosen (Some (Truth true)) (Some (Int (pos 1))) None ≡ Some (Int (pos 1))
  pub chosen_second : chosen (Some (Truth false)) None (Some (Int (pos 2))) ≡ Some (Int (pos 2))
  pub chosen_without : chosen (Some (Truth true)) None (Some (Int (pos 2))) ≡ None
  pub condition_needed : chosen None (Some (Int (pos 1))) (Some (Int (pos 1))) ≡ None
  pub condition_of_int : chosen (Some (Int (pos 1))) (Some (Int (pos 1))) (Some (Int (pos 1))) ≡ None
