-- To be believed: a listing or a test of all rows of a span in which no entry is spent.
use Rattle.std.specs.Prelude.{◌≡◌, ℕ, List, [], ◌∷◌, true, length, None}
use Rattle.std.specs.List.{list_all}
use Rattle.kr_base.specs.declared.span.Bound.TheVariants.{At}
use Rattle.kr_base.specs.declared.span.Span.{Span}
use Rattle.kr_base.specs.declared.entry.Entry.{Entry}
use Rattle.kr_base.specs.Causes.{capped}
use Rattle.kr_base.specs.Entries.{Ascends, entries_in, within}
use Rattle.kr_core.specs.declared.event.Event.{Event}
use Rattle.kr_core.specs.declared.event.Event.TheVariants.{Take, Steal, Report, GiveUp, Drain, StopAt, Look}
use Rattle.kr_core.specs.States.{State, is_closed}
use Rattle.kr_core.specs.Counts.{HonestRuns}
use Rattle.kr_core.specs.Cutting.{cuts_for}
use Rattle.kr_core.specs.Openings.{end_of, opening}
use Rattle.kr_survey.specs.Listings.{spent_in}
use Rattle.kr_trace.specs.declared.ending.Last.TheVariants.{Listed, Tested}
use Rattle.kr_trace.specs.Checked.{agrees}
use Rattle.korat_top_laws.specs.Honest.{valid_keys}

-- no event is a stop
abbrev pub HasNoStop : List Event → Type 0
HasNoStop [] = Unit {0}
HasNoStop (Take seat n ∷ log) = HasNoStop log
HasNoStop (Steal seat victim cut n ∷ log) = HasNoStop log
HasNoStop (Report seat n reach rows tried spent ∷ log) = HasNoStop log
HasNoStop (GiveUp seat n ∷ log) = HasNoStop log
HasNoStop (Drain rows ∷ log) = HasNoStop log
HasNoStop (StopAt mark ∷ log) = ⊥
HasNoStop (Look seat ∷ log) = HasNoStop log

-- A log that is honest about all entries, has no stop, and ends where no segment has an owner or a remainder; no entry of the span is spent.
pub record EndsWhole {R : Type 0} (es : List (Entry R)) (span : Span) (workers : ℕ) (log : List Event) (new : State) : Type 0 where
  pub ascends : Ascends es
  pub runs : HonestRuns es (opening span (cuts_for span workers)) log new
  pub closed : list_all is_closed new.segments ≡ true
  pub unstopped : HasNoStop log
  pub unspent : spent_in (entries_in (At span.after) span.upto es) ≡ None

-- Then the rows of the span's entries are those up to its end, and the line of how many they are, how many fail and how many entries
-- there are says what they and the log say.
pub record SaysWhole {R : Type 0} (es : List (Entry R)) (span : Span) (new : State) (keys : List (List ℕ)) (tried : ℕ) : Type 0 where
  pub keys_are : keys ≡ valid_keys (within (At span.after) (end_of span) es)
  pub listed : (failing : ℕ) → agrees span (record { keys = keys; failing = failing }) new (Listed (length keys) tried) ≡ true
  pub tested : (failing : ℕ) → agrees span (record { keys = keys; failing = failing }) new (Tested (length keys) failing tried) ≡ true

abbrev pub EndsLaw : Type 0 → Type 0
EndsLaw R = (es : List (Entry R)) (span : Span) (workers : ℕ) (log : List Event) (new : State) → EndsWhole es span workers log new →
    SaysWhole es span new (valid_keys (entries_in (At span.after) span.upto es)) (capped (length (entries_in (At span.after) span.upto es)))
