-- To be believed: numeric promotion: the type to which operands are converted (Java Language Specification 5.6).
use Rattle.std.specs.Prelude.{Bool, Option, Some, None, is_some}
use Rattle.kr_classes_table.specs.Numbers.{wider}
use Rattle.kr_classes_table.specs.Types.{JavaType, NumberType}

-- the promoted type of one operand: of a sign, of each operand of a shift
abbrev pub promoted_alone : JavaType → Option JavaType
promoted_alone (NumberType w) = Some (NumberType w)
promoted_alone t = None

-- the promoted type of two operands
abbrev pub promoted : JavaType → JavaType → Option JavaType
promoted (NumberType v) (NumberType w) = Some (NumberType (wider v w))
promoted t u = None

-- the types of numbers
abbrev pub is_number : JavaType → Bool
is_number t = is_some (promoted_alone t)

abbrev pub are_numbers : JavaType → JavaType → Bool
are_numbers t u = is_some (promoted t u)
