-- Laws of the orders of a problem's candidates, and of how their runs end.
use Rattle.std.proofs.Common.{◌≡◌, ℕ, ◌<◌, ◌++◌, [], ◌∷◌, List, length, refl, sym, ap, ◌∙◌, subst, arith}
use Rattle.std.specs.Prelude.{flat_map}
use Rattle.kr_base.specs.declared.entry.Mark.{Mark}
use Rattle.kr_base.specs.declared.entry.Mark.TheVariants as marks
use Rattle.kr_mean.specs.Heaps.{distinct}
use Rattle.kr_mean.specs.Problem.{Problem}
use Rattle.kr_mean.specs.Space.{space_of}
use Rattle.kr_mean.specs.Readings.{Forks, IsReading}
use Rattle.kr_mean.specs.Runs as runs
use Rattle.kr_mean.specs.Runs.{End, accepted_walk, end_on, is_same_number, order_of, read_slots, slots_for}
use Rattle.kr_mean.specs.Entries.{mark_for, mark_of, row_of}
use Rattle.kr_mean.specs.WellFormed.{IsWellFormed}
use Rattle.kr_mean.specs.declared.row.Row.{Row}
use Rattle.kr_laws_pruning.specs.Laws.{IsLawful}
use Rattle.kr_laws_pruning.proofs.Places.{this_slots}
use Rattle.kr_step.specs.declared.candidates.Ending.{Ending}
use Rattle.kr_step.specs.declared.candidates.Ending.TheVariants.{Valid, Invalid, Spent}
use Rattle.kr_step.specs.Scans.{ending_of}

-- ---- the slots that decide a run decide its end

mark_ending : Mark Row → Ending
mark_ending (marks.Valid row) = Valid
mark_ending marks.Invalid = Invalid
mark_ending marks.Spent = Spent

ending_marked : (end : End) (row : Row) → mark_ending (mark_for end row) ≡ ending_of end
unfolding mark_ending
ending_marked runs.True row = refl
ending_marked runs.False row = refl
ending_marked (runs.Trap kind) row = refl
ending_marked runs.Spent row = refl

same_ending : (problem : Problem) (u v : List ℕ) → mark_of problem u ≡ mark_of problem v → ending_of (end_on problem u) ≡ ending_of (end_on problem v)
unfolding mark_of
same_ending problem u v e = sym (ending_marked (end_on problem u) (row_of problem u)) ∙ (ap mark_ending e ∙ ending_marked (end_on problem v) (row_of problem v))

forks_on : (u v : List ℕ) (one other : Type 0) (ss ts : List ℕ) → (one → other) → Forks u v one ss ts → Forks u v other ss ts
forks_on u v one other [] [] f h = f h
forks_on u v one other [] (t ∷ ts) f h = absurd h
forks_on u v one other (s ∷ ss) [] f h = absurd h
forks_on u v one other (s ∷ ss) (t ∷ ts) f h = (h.0, λ e. forks_on u v one other ss ts f (h.1 e))

pub reading_is : (problem : Problem) → IsLawful problem → IsReading (space_of problem) (order_of problem) (λ (v : List ℕ). ending_of (end_on problem v))
reading_is problem h = record {
  below = h.reading.below;
  once = h.reading.once;
  forks = λ u v a b. forks_on u v (mark_of problem u ≡ mark_of problem v) (ending_of (end_on problem u) ≡ ending_of (end_on problem v)) (order_of problem u) (order_of problem v) (same_ending problem u v) (h.reading.forks u v a b);
  renames = h.reading.renames;
}

-- ---- `this` is read first

pub some_read : (problem : Problem) → IsWellFormed problem → (v : List ℕ) → 0 < length (order_of problem v)
unfolding order_of read_slots
some_read problem well v =
    subst (λ (ss : List ℕ). 0 < length (distinct is_same_number ((ss ++ rest) ++ accepted_walk problem v))) (sym (this_slots problem well)) (omega arith)
  where
    rest : List ℕ
    rest = flat_map (slots_for problem) (runs.hold_all problem.program (runs.conditions problem) (runs.start problem v)).reads
