-- Between crates: what contracts see of a board.
use Rattle.std.specs.Prelude.{ℕ, List, Option}
use Rattle.kr_core.specs.declared.event.Event.{Event}
use Rattle.kr_core.specs.States.{State}

-- the machine's state; beside it, of each segment, the rows not drained; the events so far; and how many rows may be kept, if
-- there is a bound
pub record Held (R : Type 0) : Type 0 where
  pub core : State
  pub kept : List (List R)
  pub log : List Event
  pub window : Option ℕ
