-- To be believed: a listing or a test that leaves rows out.
use Rattle.std.specs.Prelude.{◌≡◌, ℕ, ◌^◌, ◌-◌, ◌<◌, ◌⊎◌, List, [], ◌∷◌, true, false, length, take, Option, Some, None}
use Rattle.std.specs.List.{list_all}
use Rattle.kr_base.specs.declared.span.Bound.TheVariants.{At}
use Rattle.kr_base.specs.declared.span.Span.{Span}
use Rattle.kr_base.specs.declared.entry.Entry.{Entry}
use Rattle.kr_base.specs.Bounds.{less}
use Rattle.kr_base.specs.Entries.{Ascends, entries_in, within}
use Rattle.kr_core.specs.declared.event.Event.{Event}
use Rattle.kr_core.specs.States.{State, is_closed}
use Rattle.kr_core.specs.Counts.{HonestRuns, last_stop}
use Rattle.kr_core.specs.Cutting.{cuts_for}
use Rattle.kr_core.specs.Openings.{end_of, opening}
use Rattle.kr_core.specs.Rows.{drained}
use Rattle.kr_trace.specs.declared.ending.Last.TheVariants.{More}
use Rattle.kr_trace.specs.Checked.{agrees}
use Rattle.korat_top_laws.specs.Honest.{valid_keys}

abbrev pub last_of : List (List ℕ) → Option (List ℕ)
last_of [] = None
last_of (k ∷ []) = Some k
last_of (k ∷ next ∷ ks) = last_of (next ∷ ks)

-- A log that is honest about all entries and ends where no segment has an owner or a remainder. A span has more rows than are wanted; the
-- log has no stop, or more rows than that were drained; and the last row that is wanted has this key.
pub record LeavesOut {R : Type 0} (es : List (Entry R)) (span : Span) (workers limit : ℕ) (key : List ℕ) (log : List Event) (new : State) : Type 0 where
  pub ascends : Ascends es
  pub runs : HonestRuns es (opening span (cuts_for span workers)) log new
  pub closed : list_all is_closed new.segments ≡ true
  pub small : limit < 2 ^ 64 - 1
  pub more : limit < length (valid_keys (entries_in (At span.after) span.upto es))
  pub past : (last_stop span.upto log ≡ span.upto) ⊎ (limit < drained log)
  pub last : last_of (take limit (valid_keys (entries_in (At span.after) span.upto es))) ≡ Some key

-- Then the rows that are wanted are those up to the key, which is inside the span, and `more KEY` says what they and the log say.
pub record SaysMore {R : Type 0} (es : List (Entry R)) (span : Span) (key : List ℕ) (new : State) (keys : List (List ℕ)) : Type 0 where
  pub keys_are : keys ≡ valid_keys (within (At span.after) (At key) es)
  pub inside : less (end_of span) (At key) ≡ false
  pub says : (failing : ℕ) → agrees span (record { keys = keys; failing = failing }) new (More key) ≡ true

abbrev pub MoreLaw : Type 0 → Type 0
MoreLaw R = (es : List (Entry R)) (span : Span) (workers limit : ℕ) (key : List ℕ) (log : List Event) (new : State) → LeavesOut es span workers limit key log new →
    SaysMore es span key new (take limit (valid_keys (entries_in (At span.after) span.upto es)))
