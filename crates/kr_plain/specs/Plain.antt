-- Between crates: the result of going over every vector.
use Rattle.std.specs.Prelude.{◌≡◌, ℕ, ◌<◌, ◌⊎◌, List, Bool, true, false}
use Rattle.std.proofs.Common.{get_or}
use Rattle.kr_base.specs.declared.span.Bound.{Bound}
use Rattle.kr_base.specs.declared.entry.Mark.{Mark}
use Rattle.kr_base.specs.declared.entry.Mark.TheVariants as marks
use Rattle.kr_base.specs.declared.entry.Entry.{Entry}
use Rattle.kr_base.specs.Cuts.{Before}
use Rattle.kr_base.specs.Entries.{is_within}
use Rattle.kr_mean.specs.Space.{Space, IsVector}
use Rattle.kr_mean.specs.Readings.{Lacks}
use Rattle.kr_mean.specs.Runs.{key_along}
use Rattle.kr_mean.specs.Entries.{IsListed, entry_of, insert}
use Rattle.kr_mean.specs.declared.row.Row.{Row}
use Rattle.kr_value.specs.declared.value.Value.{Value}
use Rattle.kr_step.specs.declared.candidates.Ending.{Ending}
use Rattle.kr_step.specs.declared.candidates.Ending.TheVariants.{Valid, Invalid, Spent}

-- an entry with the report of its row
abbrev pub told_mark : {R T : Type 0} → (R → T) → Mark R → Mark T
told_mark told (marks.Valid row) = marks.Valid (told row)
told_mark told marks.Invalid = marks.Invalid
told_mark told marks.Spent = marks.Spent

abbrev pub told_entry : {R T : Type 0} → (R → T) → Entry R → Entry T
told_entry told e = record { key = e.key; mark = told_mark told e.mark }

-- without its row
abbrev pub bare : {R : Type 0} → Entry R → Entry (Unit {0})
bare e = told_entry (λ row. tt) e

-- with its structure alone
abbrev pub structured : Entry Row → Entry (List (ℕ × Value))
structured e = told_entry (λ row. row.structure) e

-- the mark of a run that ends so, with the report of a valid one
abbrev pub mark_for : {T : Type 0} → T → Ending → Mark T
mark_for told Valid = marks.Valid told
mark_for told Invalid = marks.Invalid
mark_for told Spent = marks.Spent

abbrev pub mark_by : {T : Type 0} → (List ℕ → T) → (List ℕ → Ending) → List ℕ → Mark T
mark_by told ending v = mark_for (told v) (ending v)

-- The next vector, the first slot counting most; or there is none.
abbrev pub Follows : Space → List ℕ → Bool → List ℕ → Type 0
Follows space v true w = IsVector space w × Before v w × ((u : List ℕ) → IsVector space u → Before v u → Before u w → ⊥)
Follows space v false w = (u : List ℕ) → IsVector space u → Before v u → ⊥

-- a listed vector with its key in a span
abbrev pub IsKept : Space → (List ℕ → List ℕ) → Bound → Bound → List ℕ → Type 0
IsKept space order a b v = IsListed space order v × (is_within a b (key_along v (order v)) ≡ true)

-- the entry of a vector that is kept is among the entries then; without one nothing changes
abbrev pub Tries : {T : Type 0} → Space → (List ℕ → List ℕ) → (List ℕ → Mark T) → Bound → Bound → List ℕ → List (Entry T) → List (Entry T) → Type 0
Tries space order mark a b v old new =
    (IsKept space order a b v × (new ≡ insert (entry_of order mark v) old)) ⊎ ((IsKept space order a b v → ⊥) × (new ≡ old))

-- of the slots below a number, those that an order doesn't have are at 0
abbrev pub IsSettledUpto : ℕ → List ℕ → List ℕ → Type 0
IsSettledUpto n order v = (s : ℕ) → s < n → Lacks order s → get_or v s 0 ≡ 0
