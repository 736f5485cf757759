-- The slots of a walk are slots of the problem.
use Rattle.std.proofs.Common.{ℕ, zero, suc, ◌<◌, List, [], ◌∷◌, length, get_or, arith}
use Rattle.kr_laws_runs.proofs.Respects.{AllOf}
use Rattle.kr_mean.specs.Heaps.{walk}
use Rattle.kr_mean.specs.Problem.{Problem, all_objects, slots}
use Rattle.kr_mean.specs.Readings.{AllBelow}
use Rattle.kr_mean.specs.WellFormed.{IsWellFormed}
use Rattle.kr_laws_pruning.proofs.Walked.{walk_below, walked}

below_all : (n : ℕ) (ss : List ℕ) → AllOf (λ s. s < n) ss → AllBelow n ss
below_all n [] a = tt
below_all n (s ∷ ss) a = (a.0, below_all n ss a.1)

pub below_at : (n : ℕ) (ss : List ℕ) (i : ℕ) → AllBelow n ss → i < length ss → get_or ss i 0 < n
below_at n [] i a h = absurd (omega arith)
below_at n (s ∷ ss) zero a h = a.0
below_at n (s ∷ ss) (suc i) a h = below_at n ss i a.1 (omega arith)

pub walk_inside : (problem : Problem) → IsWellFormed problem → (v : List ℕ) → AllBelow (length (slots problem)) (walk problem v)
unfolding walk
walk_inside problem w v = below_all (length (slots problem)) (walked problem v (length (all_objects problem))) (walk_below problem w v (length (all_objects problem)))
