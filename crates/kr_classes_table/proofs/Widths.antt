-- Equal widths.
use Rattle.std.proofs.Common.{◌≡◌, true, refl}
use Rattle.kr_classes_table.specs.Numbers.{Width, Bits32, Bits64, is_same_width}

pub same_width : (v w : Width) → is_same_width v w ≡ true → v ≡ w
same_width Bits32 Bits32 e = refl
same_width Bits64 Bits64 e = refl
same_width _ _ e = absurd (cc (e))

pub width_itself : (w : Width) → is_same_width w w ≡ true
width_itself Bits32 = refl
width_itself Bits64 = refl
