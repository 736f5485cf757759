-- Between crates: a board of a run that is the caller's own.
use Rattle.std.specs.Prelude.{◌≡◌, ◌<◌, ℕ, List, Option, true}
use Rattle.kr_base.specs.declared.span.Span.{Span}
use Rattle.kr_base.specs.declared.entry.Entry.{Entry}
use Rattle.kr_core.specs.declared.event.Event.{Event}
use Rattle.kr_core.specs.Openings.{opening}
use Rattle.kr_core.specs.Rows.{drained}
use Rattle.kr_board.specs.Held.{Held}
use Rattle.kr_pool_desk.specs.Limits.{IsWanted, KeepsWindow, begins_within}
use Rattle.kr_pool_desk.specs.Runs.{IsRun}
use Rattle.kr_pool_desk.specs.declared.wanted.Wanted.{Wanted}

-- it is one of the run, with any number of calls; so many rows are still wanted; nothing was begun past the limit, and its window
-- was kept
pub record IsOwn {R : Type 0} (all : List (Entry R)) (span : Span) (cuts : List (List ℕ)) (ops : List Event) (workers : ℕ) (window limit : Option ℕ) (b : Held R) (wanted : Wanted) : Type 0 where
  pub calls : ℕ
  pub run : IsRun all span cuts ops workers b calls
  pub left : IsWanted limit (drained b.log) wanted
  pub begun : begins_within limit 0 b.log ≡ true
  pub window_is : b.window ≡ window
  pub kept : KeepsWindow window (opening span cuts) b.log
  pub some : 0 < workers
