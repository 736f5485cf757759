-- To be believed: what a seat knows of a call under the lock, once it no longer has the lock.
use Rattle.std.specs.Prelude.{◌≡◌, ◌+◌, ◌⊎◌, ℕ, List, [], length, Bool, Option, Some, None}
use Rattle.kr_base.specs.declared.span.Span.{Span}
use Rattle.kr_base.specs.declared.entry.Entry.{Entry}
use Rattle.kr_core.specs.declared.event.Event.{Event}
use Rattle.kr_core.specs.declared.event.Event.TheVariants.{Drain}
use Rattle.kr_core.specs.declared.event.Reply.TheVariants.{Noted}
use Rattle.kr_core.specs.declared.event.Lease.{Lease}
use Rattle.kr_core.specs.Rows.{drained}
use Rattle.kr_survey.specs.declared.part.Part.{Part}
use Rattle.kr_board.specs.Boards.{Adds}
use Rattle.kr_board.specs.Closing.{all_closed, front_rows}
use Rattle.kr_board.specs.Held.{Held}
use Rattle.kr_board.specs.declared.board.taking.Taken.{Taken}
use Rattle.kr_board.specs.declared.board.taking.Taken.TheVariants.{Lease as Leased, Later, Finished}
use Rattle.kr_board.specs.declared.board.reporting.Reported.{Reported}
use Rattle.kr_pool_desk.specs.Runs.{IsRun}
use Rattle.kr_pool_desk.specs.Tables.{Answers, Gives, GoesWithin}

-- a board of the run before a call, and one after it: the log grew by as many calls as the seat's count did
pub record IsCall {R : Type 0} (all : List (Entry R)) (span : Span) (cuts : List (List ℕ)) (opening : List Event) (workers from to : ℕ) (old new : Held R) : Type 0 where
  pub before : ℕ
  pub now : ℕ
  pub old_run : IsRun all span cuts opening workers old before
  pub new_run : IsRun all span cuts opening workers new now
  pub counted : now + from ≡ before + to

-- the answer to a report is one of two such boards
pub record ObservesReport {R : Type 0} (all : List (Entry R)) (span : Span) (cuts : List (List ℕ)) (opening : List Event) (workers : ℕ) (limit : Option ℕ) (from to : ℕ) (lease : Lease) (part : Part R) (reported : Reported R) : Type 0 where
  pub old : Held R
  pub new : Held R
  pub call : IsCall all span cuts opening workers from to old new
  pub answer : Answers old lease part new reported
  pub within : GoesWithin limit new reported

-- the answer to a take likewise
pub record ObservesTake {R : Type 0} (all : List (Entry R)) (span : Span) (cuts : List (List ℕ)) (opening : List Event) (workers : ℕ) (limit : Option ℕ) (seat from to : ℕ) (taken : Option Taken) : Type 0 where
  pub old : Held R
  pub new : Held R
  pub call : IsCall all span cuts opening workers from to old new
  pub answer : Gives limit seat old new taken

-- A drain is the one event between two such boards, and its rows are those at the first one's front. So many rows were drained
-- then, and it is exactly whether no segment has an owner or a remainder.
pub record ObservesDrain {R : Type 0} (all : List (Entry R)) (span : Span) (cuts : List (List ℕ)) (opening : List Event) (workers from to d : ℕ) (rows : List R) (finished : Bool) : Type 0 where
  pub old : Held R
  pub new : Held R
  pub call : IsCall all span cuts opening workers from to old new
  pub front : rows ≡ front_rows old
  pub event : Adds old (Drain (length rows)) Noted [] new
  pub given : drained new.log ≡ d
  pub finished_is : finished ≡ all_closed new.core

-- A lease is the answer to the seat's last take. Where there is none, the seat logged nothing, or its last take gave none.
abbrev pub ObservesLease : {R : Type 0} → List (Entry R) → Span → List (List ℕ) → List Event → ℕ → Option ℕ → ℕ → ℕ → ℕ → Option Lease → Type 0
ObservesLease all span cuts opening workers limit seat from to (Some lease) = (middle : ℕ) × ObservesTake all span cuts opening workers limit seat middle to (Some (Leased lease))
ObservesLease all span cuts opening workers limit seat from to None = (to ≡ from) ⊎ ((middle : ℕ) × (ObservesTake all span cuts opening workers limit seat middle to (Some Later) ⊎ ObservesTake all span cuts opening workers limit seat middle to (Some Finished)))
