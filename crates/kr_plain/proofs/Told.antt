-- The structures of candidates that are laid out.
use Rattle.std.proofs.Common.{◌≡◌, ℕ, zero, suc, List, ◌++◌, refl, ap, sym, ◌∙◌}
use Rattle.std.specs.Prelude.{flat_map, length, map}
use Rattle.kr_mean.specs.Entries.{structure_of}
use Rattle.kr_mean.specs.Heaps.{met_within, objects_at, root_slots, slots_in, value_at, walk}
use Rattle.kr_mean.specs.Problem.{Problem, DomainObject, all_objects}
use Rattle.kr_mean.specs.Program.{Program}
use Rattle.kr_space_layout.specs.Bounds.{Bounds, bare, problem_with}

-- reachable slots don't depend on the program
met_same : (program : Program) (b : Bounds) (v : List ℕ) (n : ℕ) → met_within (bare b) v n ≡ met_within (problem_with program b) v n
met_same program b v zero = refl
met_same program b v (suc n) = ap (λ (os : List DomainObject). objects_at (bare b) v (root_slots (bare b) ++ flat_map (slots_in (bare b) v) os)) (met_same program b v n)

walk_same : (program : Program) (b : Bounds) (v : List ℕ) → walk (bare b) v ≡ walk (problem_with program b) v
unfolding walk
walk_same program b v = ap (λ (os : List DomainObject). root_slots (bare b) ++ flat_map (slots_in (bare b) v) os) (met_same program b v (length (all_objects (bare b))))

pub structure_same : (problem : Problem) (b : Bounds) (v : List ℕ) → problem ≡ problem_with problem.program b → structure_of problem v ≡ structure_of (bare b) v
structure_same problem b v laid =
    ap (λ (p : Problem). structure_of p v) laid ∙ ap (λ (ss : List ℕ). map (λ s. (s, value_at (bare b) v s)) ss) (sym (walk_same problem.program b v))
