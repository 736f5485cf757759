-- To be believed: what a board under a lock keeps: whose it is, and by whom it was moved.
use Rattle.std.specs.Prelude.{◌≡◌, ℕ, List, [], ◌∷◌, ◌++◌, Bool, true, false, ◌&&◌, nat_lt, length}
use Rattle.kr_base.specs.declared.span.Span.{Span}
use Rattle.kr_base.specs.declared.entry.Entry.{Entry}
use Rattle.kr_base.specs.Entries.{Ascends}
use Rattle.kr_core.specs.declared.event.Event.{Event}
use Rattle.kr_core.specs.declared.event.Event.TheVariants.{Take, Steal, Report, GiveUp, Drain, StopAt, Look}
use Rattle.kr_core.specs.Openings.{AreInside}
use Rattle.kr_board.specs.Held.{Held}
use Rattle.kr_board.specs.Boards.{IsBoardOf}
use Rattle.kr_pool_desk.specs.Short.{IsShortRun, AreShortEvents}

-- an event of a board that workers share: of a seat below their number, or a drain, but no stop
abbrev pub is_shared : ℕ → Event → Bool
is_shared workers (Take seat n) = nat_lt seat workers
is_shared workers (Steal seat victim cut n) = nat_lt seat workers
is_shared workers (Report seat n reach rows tried spent) = nat_lt seat workers
is_shared workers (GiveUp seat n) = nat_lt seat workers
is_shared workers (Drain rows) = true
is_shared workers (StopAt mark) = false
is_shared workers (Look seat) = nat_lt seat workers

abbrev pub are_shared : ℕ → List Event → Bool
are_shared workers [] = true
are_shared workers (event ∷ events) = is_shared workers event && are_shared workers events

-- the log is the one at the start, followed by as many events as were counted as calls; all are such
pub record IsGrown (opening : List Event) (workers calls : ℕ) (log : List Event) : Type 0 where
  pub more : List Event
  pub logged : log ≡ opening ++ more
  pub shared : are_shared workers log ≡ true
  pub counted : length more ≡ calls

pub record IsRun {R : Type 0} (all : List (Entry R)) (span : Span) (cuts : List (List ℕ)) (opening : List Event) (workers : ℕ) (b : Held R) (calls : ℕ) : Type 0 where
  pub ascends : Ascends all
  pub inside : AreInside cuts span
  pub board : IsBoardOf all span cuts b
  pub grown : IsGrown opening workers calls b.log
  pub short : IsShortRun all span cuts → AreShortEvents b.log
