-- The first word of a text.
use Rattle.std.proofs.Common.{◌≡◌, ℕ, zero, suc, ◌+◌, ◌<◌, List, [], ◌∷◌, true, false, length, take, drop, get_or, refl, sym, ap, ◌∙◌, arith}
use Rattle.std.specs.Prelude.{◌==◌}
use Rattle.std.proofs.lemmas.Bool.{eq-eqb}
use Rattle.kr_text.specs.Splitting.{onto}
use Rattle.kr_trace.specs.Words.{words_in}

-- a text up to its first space, and the words after it
pub first_word : (text : List ℕ) (at : ℕ) → at < length text → ((k : ℕ) → k < at → (get_or text k 0 == 32) ≡ false) → get_or text at 0 ≡ 32
    → words_in text ≡ take at text ∷ words_in (drop (at + 1) text)
first_word [] at h before here = absurd (omega (arith, h))
first_word (b ∷ bs) zero h before here = rw (eq-eqb b 32 here) refl
first_word (b ∷ bs) (suc i) h before here =
    let next : suc i + 1 ≡ suc (i + 1) = omega arith in
    let rest = first_word bs i (omega (arith, h)) (λ k below. before (suc k) (omega (arith, below))) here in
    rw (before 0 (omega arith)) (rw next (ap (onto b) rest))

-- a text without a space
pub only_word : (text : List ℕ) → ((k : ℕ) → k < length text → (get_or text k 0 == 32) ≡ false) → words_in text ≡ text ∷ []
only_word [] before = refl
only_word (b ∷ bs) before = rw (before 0 (omega arith)) (ap (onto b) (only_word bs (λ k below. before (suc k) (omega (arith, below)))))
