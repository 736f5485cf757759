-- Rows of candidates.
use Rattle.std.proofs.Common.{◌≡◌, ℕ, List, ap, sym, ◌∙◌}
use Rattle.std.specs.Prelude.{Option, map}
use Rattle.kr_value.specs.declared.value.Value.{Value}
use Rattle.kr_judge.proofs.Programs.{walk_same}
use Rattle.kr_mean.specs.Heaps.{value_at}
use Rattle.kr_mean.specs.Problem.{Problem}
use Rattle.kr_mean.specs.Entries.{row_of, structure_of}
use Rattle.kr_mean.specs.Runs.{key_of}
use Rattle.kr_mean.specs.Verdicts.{verdict_of}
use Rattle.kr_mean.specs.declared.kind.Verdict.{Verdict}
use Rattle.kr_mean.specs.declared.row.Row.{Row}
use Rattle.kr_space_layout.specs.Bounds.{Bounds, bare, problem_with}

-- structures go by the slots alone
pub structure_same : (problem : Problem) (b : Bounds) (v : List ℕ) → problem ≡ problem_with problem.program b → structure_of problem v ≡ structure_of (bare b) v
structure_same problem b v laid =
    ap (λ (p : Problem). structure_of p v) laid ∙ ap (λ (ss : List ℕ). map (λ s. (s, value_at (bare b) v s)) ss) (sym (walk_same problem.program b v))

pub row_is : (problem : Problem) (v key : List ℕ) (structure : List (ℕ × Value)) (verdict : Option Verdict) → verdict ≡ verdict_of problem v → key ≡ key_of problem v → structure ≡ structure_of problem v
    → (let r : Row = record { key = key; structure = structure; verdict = verdict } in r) ≡ row_of problem v
row_is problem v key structure verdict w k s =
    ap (λ (x : List ℕ). let r : Row = record { key = x; structure = structure; verdict = verdict } in r) k
    ∙ (ap (λ (x : List (ℕ × Value)). let r : Row = record { key = key_of problem v; structure = x; verdict = verdict } in r) s
    ∙ ap (λ (x : Option Verdict). let r : Row = record { key = key_of problem v; structure = structure_of problem v; verdict = x } in r) w)
