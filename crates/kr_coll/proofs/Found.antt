-- The first position of a member.
use Rattle.std.specs.Prelude.{◌≡◌, ℕ, suc, ◌+◌, Bool, true, false, ◌||◌, not, List, [], ◌∷◌, length, if◌then◌else◌, refl, nat_lt, Some, None, MatchOption, cond}
use Rattle.std.specs.List.{position, position_or_len}
use Rattle.std.proofs.lemmas.Bool.{ltb-true, ltb-false}
use Rattle.std.proofs.Common.{ap, subst, ◌∙◌, arith, ◌⊎◌, inl, inr}
use Rattle.kr_value.specs.declared.value.Value.{Value}
use Rattle.kr_mean.specs.Collections.{is_same_value, has_member, without}
use Rattle.kr_coll.specs.Positions.{IsFirstAt, IsAbsent}

abbrev Located : List Value → Value → ℕ → Type 0
Located xs m n = IsFirstAt xs m n ⊎ (IsAbsent xs m × (n ≡ length xs))

further : {x : Value} {xs : List Value} {m : Value} {n : ℕ} → is_same_value x m ≡ false → Located xs m n → Located (x ∷ xs) m (suc n)
further {x} {xs} {m} {n} e (inl f) = inl (record {
  within = omega (arith, f.within);
  there = ap (λ b. b || has_member m xs) e ∙ f.there;
  taken = ap (λ b. if b then xs else x ∷ without m xs) e ∙ ap (λ ys. x ∷ ys) f.taken;
})
further {x} {xs} {m} {n} e (inr (a, g)) = inr (
  record {
    there = ap (λ b. b || has_member m xs) e ∙ a.there;
    taken = ap (λ b. if b then xs else x ∷ without m xs) e ∙ ap (λ ys. x ∷ ys) a.taken;
  },
  omega (arith, g),
)

at_head : (b : Bool) (x : Value) (xs : List Value) (m : Value) (n : ℕ) → is_same_value x m ≡ b → Located xs m n → Located (x ∷ xs) m (cond (not b) (1 + n) 0)
at_head true x xs m n e l = inl (record {
  within = omega arith;
  there = ap (λ b. b || has_member m xs) e;
  taken = ap (λ b. if b then xs else x ∷ without m xs) e;
})
at_head false x xs m n e l = let on : suc n ≡ 1 + n = omega arith in subst (λ k. Located (x ∷ xs) m k) on (further e l)

located : (xs : List Value) (m : Value) → Located xs m (position_or_len (λ x. is_same_value x m) xs)
located [] m = inr (record { there = refl; taken = refl }, refl)
located (x ∷ xs) m = at_head (is_same_value x m) x xs m (position_or_len (λ y. is_same_value y m) xs) refl (located xs m)

by_length : (b : Bool) (xs : List Value) (m : Value) (n : ℕ) → nat_lt n (length xs) ≡ b → Located xs m n
    → MatchOption (cond b (Some n) None) (IsAbsent xs m) (λ at. IsFirstAt xs m at)
by_length true xs m n e (inl f) = f
by_length true xs m n e (inr (a, g)) = absurd (omega (arith, ltb-true n (length xs) e, g))
by_length false xs m n e (inl f) = absurd (omega (arith, ltb-false n (length xs) e, f.within))
by_length false xs m n e (inr (a, g)) = a

pub found : (xs : List Value) (m : Value) → MatchOption (position (λ x. is_same_value x m) xs) (IsAbsent xs m) (λ at. IsFirstAt xs m at)
found xs m = by_length (nat_lt (position_or_len (λ x. is_same_value x m) xs) (length xs)) xs m (position_or_len (λ x. is_same_value x m) xs) refl (located xs m)
