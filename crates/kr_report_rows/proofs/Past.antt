-- Distance from one number to another, modulo 2^32.
use Rattle.std.proofs.Common.{◌≡◌, ℕ, ◌+◌, ◌-◌, ◌*◌, ◌^◌, ◌<◌, ◌≤◌, ◌∙◌, ap, arith, inl, inr, subst}
use Rattle.std.specs.Prelude.{◌%◌}
use Rattle.std.proofs.lemmas.Bool.{cases_lt}
use Rattle.std.proofs.lemmas.Nat.{mod-mul-add}

-- where it is after it
past_behind : (s f : ℕ) → s < 2 ^ 32 → f ≤ s → (s + (2 ^ 64 - f)) % 2 ^ 64 ≡ s - f
past_behind s f small behind =
    let e : s + (2 ^ 64 - f) ≡ 1 * 2 ^ 64 + (s - f) = omega (arith, small, behind) in
    ap (λ (n : ℕ). n % 2 ^ 64) e ∙ mod-mul-add 1 (2 ^ 64) (s - f) (omega (arith, small))

-- where it is before it
past_before : (s f : ℕ) → f < 2 ^ 32 → s < f → 2 ^ 32 ≤ (s + (2 ^ 64 - f)) % 2 ^ 64
past_before s f small before =
    let e : s + (2 ^ 64 - f) ≡ 0 * 2 ^ 64 + (s + (2 ^ 64 - f)) = omega (arith, small, before) in
    let same : (s + (2 ^ 64 - f)) % 2 ^ 64 ≡ s + (2 ^ 64 - f) = ap (λ (n : ℕ). n % 2 ^ 64) e ∙ mod-mul-add 0 (2 ^ 64) (s + (2 ^ 64 - f)) (omega (arith, small, before)) in
    omega (arith, same, small, before)

-- so much the two numbers themselves
named : (P : ℕ → Type 0) (s f a b : ℕ) → a ≡ s → b ≡ f → P ((a + (2 ^ 64 - b)) % 2 ^ 64) → P ((s + (2 ^ 64 - f)) % 2 ^ 64)
named P s f a b e g h = subst (λ (x : ℕ). P ((x + (2 ^ 64 - f)) % 2 ^ 64)) e (subst (λ (y : ℕ). P ((a + (2 ^ 64 - y)) % 2 ^ 64)) g h)

-- fewer than so many after it is one of so many from it on
pub is_past : (s f n a b : ℕ) → s < 2 ^ 32 → f < 2 ^ 32 → n ≤ 2 ^ 32 → a ≡ s → b ≡ f → (a + (2 ^ 64 - b)) % 2 ^ 64 < n → (f ≤ s) × (s < f + n)
is_past s f n a b small low few e g h =
    let near = named (λ (x : ℕ). x < n) s f a b e g h in
    elim (cases_lt s f) [
      | inl before ↦ absurd (omega (arith, past_before s f low before, near, few))
      | inr behind ↦ (behind, omega (arith, past_behind s f small behind, near, behind))
    ]

-- a number at least so many after it is none of them
pub none_past : (s f n a b : ℕ) → s < 2 ^ 32 → a ≡ s → b ≡ f → n ≤ (a + (2 ^ 64 - b)) % 2 ^ 64 → f ≤ s → s < f + n → ⊥
none_past s f n a b small e g h behind near =
    let far = named (λ (x : ℕ). n ≤ x) s f a b e g h in
    omega (arith, past_behind s f small behind, far, behind, near)
