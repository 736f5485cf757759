-- To be believed: a listing, and after it the log of its workers.
use Rattle.std.specs.Prelude.{◌≡◌, ◌<◌, ◌≤◌, ℕ, List, Option, Some, None, true, false, length}
use Rattle.kr_base.specs.Entries.{entries_in}
use Rattle.kr_base.specs.declared.span.Bound.TheVariants.{At}
use Rattle.kr_base.specs.declared.span.Span.{Span}
use Rattle.kr_core.specs.Openings.{opening}
use Rattle.kr_core.specs.Rows.{drained}
use Rattle.kr_core.specs.declared.event.Event.{Event}
use Rattle.kr_mean.specs.Entries.{all_entries}
use Rattle.kr_mean.specs.Problem.{Problem}
use Rattle.kr_core.specs.Cutting.{cuts_for}
use Rattle.kr_pool_desk.specs.Limits.{KeepsWindow, begins_within}
use Rattle.kr_pool_desk.specs.Runs.{are_shared}
use Rattle.kr_pool_desk.specs.Traces.{IsTrace}
use Rattle.kr_report.specs.Endings.{BreaksOff, EndsListing}
use Rattle.kr_report.specs.Reports.{rows_in}
use Rattle.kr_report_listing.specs.Listed.{listed}
use Rattle.kr_report_streaming.specs.Followed.{followed_by}
use Rattle.kr_report_streaming.specs.Traces.{trace_text}

-- A log of so many workers over a problem's entries in a span, of which at most so many rows are wanted, with a window.
pub record IsLogFor (problem : Problem) (span : Span) (workers window limit : ℕ) (log : List Event) : Type 0 where
  -- honest steps to a state in which no segment has an owner or a remainder
  pub traces : IsTrace (all_entries problem) span workers log
  -- where no row is left out, it has no stop
  pub unstopped : length (rows_in (entries_in (At span.after) span.upto (all_entries problem))) ≤ limit → are_shared workers log ≡ true
  -- where it has one, more rows than the limit were drained
  pub past : are_shared workers log ≡ false → limit < drained log
  -- once they were, no segment is begun
  pub begun : begins_within (Some limit) 0 log ≡ true
  -- the rows that are kept are few
  pub kept : KeepsWindow (Some window) (opening span (cuts_for span workers)) log

-- The listing of a problem's entries in a span, at most so many rows, and after it this log; or it broke off in its rows, and there
-- is no log.
abbrev pub EndsLogged : {K : Type 0} → (K → Option (List ℕ)) → (K → ℕ) → Problem → Span → ℕ → ℕ → ℕ → K → K → ℕ → Option (List Event) → Type 0
EndsLogged taken faults problem span workers window limit out out' status (Some log) =
    IsLogFor problem span workers window limit log × EndsListing taken faults (followed_by (trace_text log) (listed problem limit span)) out out' status
EndsLogged taken faults problem span workers window limit out out' status None = BreaksOff taken faults (listed problem limit span) out out' status

-- with some log
pub record EndsTraced {K : Type 0} (taken : K → Option (List ℕ)) (faults : K → ℕ) (problem : Problem) (span : Span) (workers window limit : ℕ) (out out' : K) (status : ℕ) : Type 0 where
  pub log : Option (List Event)
  pub ends : EndsLogged taken faults problem span workers window limit out out' status log
