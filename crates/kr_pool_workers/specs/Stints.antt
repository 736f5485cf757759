-- To be believed: the runs that a part accounts for which is kept until there is room for it; and what a seat's turn ends with.
use Rattle.std.specs.Prelude.{◌≡◌, ◌⊎◌, ℕ, List, Bool, true, false, Option, Some, None}
use Rattle.kr_base.specs.declared.span.Span.{Span}
use Rattle.kr_base.specs.declared.entry.Entry.{Entry}
use Rattle.kr_core.specs.declared.event.Event.{Event}
use Rattle.kr_core.specs.declared.event.Lease.{Lease}
use Rattle.kr_survey.specs.declared.part.Part.{Part}
use Rattle.kr_board.specs.Parts.{IsPart}
use Rattle.kr_board.specs.declared.board.reporting.Reported.{Reported}
use Rattle.kr_board.specs.declared.board.reporting.Reported.TheVariants.{Gone, Moved, Overrun, Full, Done, Go}
use Rattle.kr_pool_desk.specs.Costs.{cost}
use Rattle.kr_pool_desk.specs.Observed.{ObservesLease, ObservesReport}
use Rattle.kr_pool_workers.specs.declared.turns.Turn.{Turn}
use Rattle.kr_pool_workers.specs.declared.turns.Turn.TheVariants as turns

abbrev pub kept_cost : {R : Type 0} → Option (Lease × Part R) → ℕ
kept_cost None = 0
kept_cost (Some kept) = cost kept.0 kept.1

-- how a turn ends after this answer to its report
abbrev pub turn_of : {R : Type 0} → Reported R → Turn
turn_of Gone = turns.Done
turn_of (Moved mark) = turns.Done
turn_of (Overrun next) = turns.Go next
turn_of (Full lease part) = turns.Full
turn_of Done = turns.Done
turn_of (Go next) = turns.Go next

-- whether a part is kept after it
abbrev pub is_full : Turn → Bool
is_full (turns.Go next) = false
is_full turns.Done = false
is_full turns.Full = true
is_full (turns.Refused why) = false

-- it ends with the answer to the report of this part, under this lease as the seat's own
pub record ObservesTurn {R : Type 0} (all : List (Entry R)) (span : Span) (cuts : List (List ℕ)) (opening : List Event) (workers : ℕ) (limit : Option ℕ) (seat from to : ℕ) (lease : Lease) (part : Part R) (turn : Turn) : Type 0 where
  pub reported : Reported R
  pub turn_is : turn ≡ turn_of reported
  pub report : ObservesReport all span cuts opening workers limit from to (record lease { seat = seat }) part reported

-- it ends with the answer to the report of some part of the entries from the lease's mark on
pub record ObservesScan {R : Type 0} (all : List (Entry R)) (span : Span) (cuts : List (List ℕ)) (opening : List Event) (workers : ℕ) (limit : Option ℕ) (seat from to : ℕ) (lease : Lease) (turn : Turn) : Type 0 where
  pub part : Part R
  pub scanned : IsPart all lease.mark part
  pub turned : ObservesTurn all span cuts opening workers limit seat from to lease part turn

-- where memory wasn't refused
abbrev pub IfAnswered : Turn → Type 0 → Type 0
IfAnswered (turns.Go next) P = P
IfAnswered turns.Done P = P
IfAnswered turns.Full P = P
IfAnswered (turns.Refused why) P = Unit {0}

-- where the part wasn't kept either
abbrev pub IfTaken : Turn → Type 0 → Type 0
IfTaken (turns.Go next) P = P
IfTaken turns.Done P = P
IfTaken turns.Full P = Unit {0}
IfTaken (turns.Refused why) P = Unit {0}

-- a seat's next lease is the one under which it goes on, or the answer to its last take; none only where memory was refused or
-- that take gave none
abbrev pub ObservesNext : {R : Type 0} → List (Entry R) → Span → List (List ℕ) → List Event → ℕ → Option ℕ → ℕ → ℕ → ℕ → Option Lease → Bool → Option Lease → Type 0
ObservesNext all span cuts opening workers limit seat from to going refused (Some lease) = (going ≡ Some lease) ⊎ ObservesLease all span cuts opening workers limit seat from to (Some lease)
ObservesNext all span cuts opening workers limit seat from to going refused None = (refused ≡ true) ⊎ ObservesLease all span cuts opening workers limit seat from to None
