-- What an entry is marked with, by how its run ends.
use Rattle.std.proofs.Common.{◌≡◌, ℕ, List, [], ◌∷◌, refl, sym, ap, ◌∙◌, subst}
use Rattle.std.specs.Prelude.{Bool, true, false}
use Rattle.kr_base.specs.declared.entry.Mark.{Mark}
use Rattle.kr_base.specs.declared.entry.Mark.TheVariants as marks
use Rattle.kr_base.specs.Entries.{is_spent}
use Rattle.kr_mean.specs.Problem.{Problem}
use Rattle.kr_mean.specs.Runs as runs
use Rattle.kr_mean.specs.Runs.{End, end_on}
use Rattle.kr_mean.specs.Entries.{mark_for, mark_of, row_of}
use Rattle.kr_mean.specs.declared.row.Row.{Row}
use Rattle.kr_step.specs.declared.candidates.Ending.{Ending}
use Rattle.kr_step.specs.declared.candidates.Ending.TheVariants.{Valid, Invalid, Spent}
use Rattle.kr_step.specs.Scans.{ending_of}
use Rattle.kr_survey.specs.Scans.{row_of as rows_at}
use Rattle.kr_scan.specs.Stops.{IsSpent}

valid_end : (end : End) (row : Row) → Valid ≡ ending_of end → rows_at (mark_for end row) ≡ row ∷ []
valid_end runs.True row e = refl
valid_end runs.False row e = absurd (cc (e))
valid_end (runs.Trap kind) row e = absurd (cc (e))
valid_end runs.Spent row e = absurd (cc (e))

invalid_end : (end : End) (row : Row) → Invalid ≡ ending_of end → rows_at (mark_for end row) ≡ []
invalid_end runs.True row e = absurd (cc (e))
invalid_end runs.False row e = refl
invalid_end (runs.Trap kind) row e = refl
invalid_end runs.Spent row e = absurd (cc (e))

spent_end : (end : End) (row : Row) → Spent ≡ ending_of end → rows_at (mark_for end row) ≡ []
spent_end runs.True row e = absurd (cc (e))
spent_end runs.False row e = absurd (cc (e))
spent_end (runs.Trap kind) row e = absurd (cc (e))
spent_end runs.Spent row e = refl

pub valid_row : (problem : Problem) (v : List ℕ) → Valid ≡ ending_of (end_on problem v) → rows_at (mark_of problem v) ≡ row_of problem v ∷ []
unfolding mark_of
valid_row problem v e = valid_end (end_on problem v) (row_of problem v) e

pub invalid_row : (problem : Problem) (v : List ℕ) → Invalid ≡ ending_of (end_on problem v) → rows_at (mark_of problem v) ≡ []
unfolding mark_of
invalid_row problem v e = invalid_end (end_on problem v) (row_of problem v) e

pub spent_row : (problem : Problem) (v : List ℕ) → Spent ≡ ending_of (end_on problem v) → rows_at (mark_of problem v) ≡ []
unfolding mark_of
spent_row problem v e = spent_end (end_on problem v) (row_of problem v) e

spent_mark : (end : End) (row : Row) → ending_of end ≡ Spent → is_spent (mark_for end row) ≡ true
spent_mark runs.True row h = absurd (cc (h))
spent_mark runs.False row h = absurd (cc (h))
spent_mark (runs.Trap kind) row h = absurd (cc (h))
spent_mark runs.Spent row h = refl

unspent_mark : (end : End) (row : Row) → (ending_of end ≡ Spent → ⊥) → is_spent (mark_for end row) ≡ false
unspent_mark runs.True row h = refl
unspent_mark runs.False row h = refl
unspent_mark (runs.Trap kind) row h = refl
unspent_mark runs.Spent row h = absurd (h refl)

-- an entry is spent as its run is
pub spent_as : (problem : Problem) (v : List ℕ) (ending : Ending) (b : Bool) → ending ≡ ending_of (end_on problem v) → IsSpent ending b → is_spent (mark_of problem v) ≡ b
unfolding mark_of
spent_as problem v ending true e h = spent_mark (end_on problem v) (row_of problem v) (sym e ∙ h)
spent_as problem v ending false e h = unspent_mark (end_on problem v) (row_of problem v) (λ s. h (e ∙ s))
