-- To be believed: a listing or a test that ends at a spent candidate.
use Rattle.std.specs.Prelude.{◌≡◌, ℕ, List, true, false, Some}
use Rattle.std.specs.List.{list_all}
use Rattle.kr_base.specs.declared.span.Bound.TheVariants.{At}
use Rattle.kr_base.specs.declared.span.Span.{Span}
use Rattle.kr_base.specs.declared.entry.Entry.{Entry}
use Rattle.kr_base.specs.Bounds.{less}
use Rattle.kr_base.specs.Entries.{Ascends, entries_in, within}
use Rattle.kr_core.specs.declared.event.Event.{Event}
use Rattle.kr_core.specs.States.{State, is_closed}
use Rattle.kr_core.specs.Counts.{HonestRuns, last_stop}
use Rattle.kr_core.specs.Cutting.{cuts_for}
use Rattle.kr_core.specs.Openings.{end_of, opening}
use Rattle.kr_survey.specs.Listings.{spent_in}
use Rattle.kr_trace.specs.declared.ending.Last.TheVariants.{Spent}
use Rattle.kr_trace.specs.Checked.{agrees}
use Rattle.korat_top_laws.specs.Honest.{valid_keys}

-- A log that is honest about all entries, has no stop, and ends where no segment has an owner or a remainder; the first spent entry of the
-- span has this key.
pub record EndsAtSpent {R : Type 0} (es : List (Entry R)) (span : Span) (workers : ℕ) (key : List ℕ) (log : List Event) (new : State) : Type 0 where
  pub ascends : Ascends es
  pub runs : HonestRuns es (opening span (cuts_for span workers)) log new
  pub closed : list_all is_closed new.segments ≡ true
  pub unstopped : last_stop span.upto log ≡ span.upto
  pub spent : spent_in (entries_in (At span.after) span.upto es) ≡ Some key

-- Then the rows of the span's entries are those up to the key, which is inside the span, and `spent KEY` says what they and the log say.
pub record SaysSpent {R : Type 0} (es : List (Entry R)) (span : Span) (key : List ℕ) (new : State) (keys : List (List ℕ)) : Type 0 where
  pub keys_are : keys ≡ valid_keys (within (At span.after) (At key) es)
  pub inside : less (end_of span) (At key) ≡ false
  pub says : (failing : ℕ) → agrees span (record { keys = keys; failing = failing }) new (Spent key) ≡ true

abbrev pub SpentLaw : Type 0 → Type 0
SpentLaw R = (es : List (Entry R)) (span : Span) (workers : ℕ) (key : List ℕ) (log : List Event) (new : State) → EndsAtSpent es span workers key log new →
    SaysSpent es span key new (valid_keys (entries_in (At span.after) span.upto es))
