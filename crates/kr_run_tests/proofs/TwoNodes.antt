-- The problem of two nodes and an array is well formed, and its vector is one.
use Rattle.std.proofs.Common.{ℕ, zero, suc, ◌<◌, refl, arith}
use Rattle.kr_mean.specs.Space.{IsVector, space_of}
use Rattle.kr_space_layout.specs.Bounds.{bare}
use Rattle.kr_run_tests.specs.TwoNodes.{two_nodes, from_second}

-- a property of each number below eight
eight : (P : ℕ → Type 0) → P 0 → P 1 → P 2 → P 3 → P 4 → P 5 → P 6 → P 7 → (s : ℕ) → s < 8 → P s
eight P a b c d e f g h zero l = a
eight P a b c d e f g h (suc zero) l = b
eight P a b c d e f g h (suc (suc zero)) l = c
eight P a b c d e f g h (suc (suc (suc zero))) l = d
eight P a b c d e f g h (suc (suc (suc (suc zero)))) l = e
eight P a b c d e f g h (suc (suc (suc (suc (suc zero))))) l = f
eight P a b c d e f g h (suc (suc (suc (suc (suc (suc zero)))))) l = g
eight P a b c d e f g h (suc (suc (suc (suc (suc (suc (suc zero))))))) l = h
eight P a b c d e f g h (suc (suc (suc (suc (suc (suc (suc (suc s)))))))) l = absurd (omega arith)

pub is_vector : IsVector (space_of (bare two_nodes)) from_second
unfolding space_of
is_vector = record {
  long = refl;
  within = eight _ (omega arith) (omega arith) (omega arith) (omega arith) (omega arith) (omega arith) (omega arith) (omega arith);
}
