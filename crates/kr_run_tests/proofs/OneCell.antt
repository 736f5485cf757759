-- The problem of one cell is well formed, and its vectors are vectors.
use Rattle.std.proofs.Common.{ℕ, zero, suc, ◌<◌, ◌^◌, [], ◌∷◌, length, refl, arith}
use Rattle.kr_mean.specs.Problem.{slots}
use Rattle.kr_mean.specs.Space.{IsVector, space_of}
use Rattle.kr_mean.specs.WellFormed.{IsWellFormed}
use Rattle.kr_space_layout.specs.Bounds.{bare}
use Rattle.kr_run_tests.specs.OneCell.{one_cell}

one : (P : ℕ → Type 0) → P 0 → (s : ℕ) → s < 1 → P s
one P a zero l = a
one P a (suc s) l = absurd (omega arith)

two : (P : ℕ → Type 0) → P 0 → P 1 → (s : ℕ) → s < 2 → P s
two P a b zero l = a
two P a b (suc zero) l = b
two P a b (suc (suc s)) l = absurd (omega arith)

pub well_formed : (fuel : ℕ) → IsWellFormed (bare (one_cell fuel))
well_formed fuel = record {
  root = omega arith;
  filled = two _ (omega arith) (omega arith);
  plain = two _ tt (tt, (tt, (tt, tt)));
  spots = one _ (refl, tt);
}

pub is_vector : (fuel value : ℕ) → value < 3 → IsVector (space_of (bare (one_cell fuel))) (0 ∷ value ∷ [])
unfolding space_of
is_vector fuel value h = record { long = refl; within = two _ (omega arith) h }

pub small : (fuel : ℕ) → length (slots (bare (one_cell fuel))) < 2 ^ 31
small fuel = omega arith
