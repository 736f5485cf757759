-- The heap that a vector spells doesn't depend on the program.
use Rattle.std.proofs.Common.{◌≡◌, ℕ, zero, suc, List, ◌++◌, refl, ap}
use Rattle.std.specs.Prelude.{flat_map, length}
use Rattle.kr_mean.specs.Heaps.{heap_of, met_within, objects_at, root_slots, slots_in, walk}
use Rattle.kr_mean.specs.Problem.{DomainObject, all_objects}
use Rattle.kr_mean.specs.Program.{Program}
use Rattle.kr_mean.specs.Runs.{start}
use Rattle.kr_space_layout.specs.Bounds.{Bounds, bare, problem_with}

module _ (program : Program) (b : Bounds) where
  pub start_same : (v : List ℕ) → start (bare b) v ≡ start (problem_with program b) v
  unfolding heap_of
  start_same v = refl

  pub met_same : (v : List ℕ) (n : ℕ) → met_within (bare b) v n ≡ met_within (problem_with program b) v n
  met_same v zero = refl
  met_same v (suc n) = ap (λ (os : List DomainObject). objects_at (bare b) v (root_slots (bare b) ++ flat_map (slots_in (bare b) v) os)) (met_same v n)

  pub walk_same : (v : List ℕ) → walk (bare b) v ≡ walk (problem_with program b) v
  unfolding walk
  walk_same v = ap (λ (os : List DomainObject). root_slots (bare b) ++ flat_map (slots_in (bare b) v) os) (met_same v (length (all_objects (bare b))))
