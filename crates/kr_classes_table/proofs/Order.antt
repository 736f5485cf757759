-- The order of places and rules.
use Rattle.std.proofs.Common.{◌≡◌, ℕ, Bool, true, false, nat_lt, rules, arith}
use Rattle.kr_classes_table.specs.Rules.{Fault, is_before, less_or}

pub number : (a b c : ℕ) → nat_lt a b ≡ false → nat_lt b c ≡ false → nat_lt a c ≡ false
number a b c p q = grind (arith, rules)

pub level : (a b c : ℕ) (r s t : Bool) → (r ≡ false → s ≡ false → t ≡ false) → less_or a b r ≡ false → less_or b c s ≡ false → less_or a c t ≡ false
level a b c r s t k p q = grind (arith, rules, k)

pub irreflexive : (f : Fault) → is_before f f ≡ false
irreflexive f = grind (arith, rules)

pub asymmetric : (f g : Fault) → is_before g f ≡ true → is_before f g ≡ false
asymmetric f g b = grind (arith, rules)

pub onwards : (h g f : Fault) → is_before h g ≡ false → is_before g f ≡ false → is_before h f ≡ false
onwards h g f =
    level h.place.file g.place.file f.place.file _ _ _
    (level h.place.line g.place.line f.place.line _ _ _ (level h.place.col g.place.col f.place.col _ _ _ (number h.rule g.rule f.rule)))
