-- Forms that compare as equal are equal.
use Rattle.std.proofs.Common.{◌≡◌, refl, true, arith, rules}
use Rattle.kr_classes_table.specs.Numbers.{Bits32, Bits64}
use Rattle.kr_classes_names.specs.declared.form.TypeForm.{TypeForm}
use Rattle.kr_classes_names.specs.declared.form.TypeForm.TheVariants.{Number, Boolean, Null, Void, Inferred, Class, Array, Set, List, Unknown, Applied}
use Rattle.kr_classes_names.specs.contracts.form.TypeFormPartialEq.TheImpl

pub itself : (x : TypeForm) → (TheImpl.ghosts).eq x x ≡ true
itself (Number Bits32) = refl
itself (Number Bits64) = refl
itself Boolean = refl
itself Null = refl
itself Void = refl
itself Inferred = refl
itself (Class c) = grind (arith, rules)
itself (Array t) = grind (arith, rules)
itself (Set t) = grind (arith, rules)
itself (List t) = grind (arith, rules)
itself (Unknown o n) = grind (arith, rules)
itself (Applied h t) = grind (arith, rules)
