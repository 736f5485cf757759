-- Operands that are promoted are numbers.
use Rattle.std.proofs.Common.{◌≡◌, true, refl}
use Rattle.kr_classes_table.specs.Numbers.{Width}
use Rattle.kr_classes_table.specs.Types.{JavaType, NumberType}
use Rattle.kr_types_meaning.specs.Promotion.{is_number, are_numbers}

pub alone_is : (a : JavaType) → is_number a ≡ true → (w : Width) × (a ≡ NumberType w)
alone_is (NumberType w) e = (w, refl)
alone_is _ e = absurd (cc (e))

pub numbers_are : (a b : JavaType) → are_numbers a b ≡ true → (v w : Width) × (a ≡ NumberType v) × (b ≡ NumberType w)
numbers_are (NumberType v) (NumberType w) e = (v, w, refl, refl)
numbers_are _ _ e = absurd (cc (e))
