-- Two equations at once.
use Rattle.std.proofs.Common.{◌≡◌, ap, ◌∙◌}

pub ap2 : {A B C : Type 0} (f : A → B → C) {a b : A} {x y : B} → a ≡ b → x ≡ y → f a x ≡ f b y
ap2 f {a} {b} {x} {y} e g = ap (λ z. f z x) e ∙ ap (f b) g
