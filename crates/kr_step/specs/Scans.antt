-- Between crates: what a scan of a problem's candidates finds.
use Rattle.std.specs.Prelude.{◌≡◌, ℕ, List, [], ◌∷◌}
use Rattle.kr_base.specs.declared.span.Bound.{Bound}
use Rattle.kr_base.specs.declared.span.Bound.TheVariants.{At}
use Rattle.kr_base.specs.declared.entry.Entry.{Entry}
use Rattle.kr_base.specs.Entries.{within}
use Rattle.kr_mean.specs.Problem.{Problem}
use Rattle.kr_mean.specs.Space.{Space, space_of, IsVector}
use Rattle.kr_mean.specs.Runs.{End, end_on, order_of, key_of}
use Rattle.kr_mean.specs.Runs as runs
use Rattle.kr_mean.specs.Entries.{mark_of, entry_of, all_entries}
use Rattle.kr_mean.specs.declared.row.Row.{Row}
use Rattle.kr_laws_pruning.specs.Laws.{IsLawful}
use Rattle.kr_step.specs.declared.candidates.Ending.{Ending}
use Rattle.kr_step.specs.declared.candidates.Ending.TheVariants.{Valid, Invalid, Spent}
use Rattle.kr_step.specs.declared.stage.Next.{Next}
use Rattle.kr_step.specs.declared.stage.Next.TheVariants.{Found, End as None_left}

-- a run that traps is invalid
abbrev pub ending_of : End → Ending
ending_of runs.True = Valid
ending_of runs.False = Invalid
ending_of (runs.Trap kind) = Invalid
ending_of runs.Spent = Spent

-- Slots, orders and ends are those of a problem, which is lawful.
pub record RunsOn (problem : Problem) (space : Space) (order : List ℕ → List ℕ) (ending : List ℕ → Ending) : Type 0 where
  pub lawful : IsLawful problem
  pub candidates : space ≡ space_of problem
  pub orders : (v : List ℕ) → IsVector space v → order v ≡ order_of problem v
  pub ends : (v : List ℕ) → IsVector space v → ending v ≡ ending_of (end_on problem v)

-- the entries that a span has above a cut
abbrev pub left : Problem → Bound → List ℕ → List (Entry Row)
left problem upto cut = within (At cut) upto (all_entries problem)

-- the entry of a candidate
abbrev pub entry_at : Problem → List ℕ → Entry Row
entry_at problem v = entry_of (order_of problem) (mark_of problem) v

-- the candidate is that of the first entry left
pub record Finds (problem : Problem) (upto : Bound) (cut v new : List ℕ) (ending : Ending) : Type 0 where
  pub vector : IsVector (space_of problem) v
  pub ends : ending ≡ ending_of (end_on problem v)
  pub key : new ≡ key_of problem v
  pub entries : left problem upto cut ≡ entry_at problem v ∷ left problem upto new

-- From the cut on: the first entry left is found, and its key is the new cut; or none is left, above neither cut.
abbrev pub Scans : Problem → Bound → List ℕ → List ℕ → List ℕ → Next → Type 0
Scans problem upto cut v new (Found ending) = Finds problem upto cut v new ending
Scans problem upto cut v new None_left = (left problem upto cut ≡ []) × (left problem upto new ≡ [])

-- The candidates, the cut above which the next entry is looked for, and where the span ends.
pub record Shown (R : Type 0) : Type 0 where
  pub candidates : R
  pub cut : List ℕ
  pub upto : Bound
