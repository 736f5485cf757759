-- Vectors whose indices are looked at one by one.
use Rattle.std.proofs.Common.{◌≡◌, ◌<◌, ◌≤◌, ◌+◌, ℕ, Bool, true, false, List, get_or, length, refl, subst, arith}
use Rattle.std.specs.Prelude.{nat_lt}
use Rattle.std.proofs.lemmas.Bool.{ltb-true, ltb-false}
use Rattle.kr_mean.specs.Problem.{Problem, choices_at, slots}
use Rattle.kr_mean.specs.Space.{IsVector, space_of}

-- so many of the slots have an index of their domain
abbrev pub AreFitting : Problem → List ℕ → ℕ → Type 0
AreFitting problem v k = (s : ℕ) → s < k → get_or v s 0 < length (choices_at problem s)

pub one_more : (problem : Problem) (v : List ℕ) (k : ℕ) → AreFitting problem v k → get_or v k 0 < length (choices_at problem k) → AreFitting problem v (k + 1)
one_more problem v k h x s below = go (nat_lt s k) refl
  where
    go : (b : Bool) → nat_lt s k ≡ b → get_or v s 0 < length (choices_at problem s)
    go true e = h s (ltb-true s k e)
    go false e =
        let is : k ≡ s = omega (arith, ltb-false s k e, below) in
        subst (λ (n : ℕ). get_or v n 0 < length (choices_at problem n)) is x

pub all_fit : (problem : Problem) (v : List ℕ) (k : ℕ) → length v ≡ length (slots problem) → AreFitting problem v k → length (slots problem) ≤ k → IsVector (space_of problem) v
unfolding space_of
all_fit problem v k long h all = record { long = long; within = λ s below. h s (omega (arith, below, all)) }
