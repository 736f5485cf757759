-- Between crates: what was taken out last, and what is kept.
use Rattle.std.specs.Prelude.{ℕ, ◌-◌, List, Option, Some, None, length, slice_get}
use Rattle.kr_core.specs.declared.event.Event.{Event}
use Rattle.kr_core.specs.Rows.{drains}
use Rattle.kr_board.specs.Held.{Held}
use Rattle.kr_survey.specs.Joins.{joined}

abbrev pub drains_of : Option Event → ℕ
drains_of None = 0
drains_of (Some event) = drains event

-- the rows that the last event took out
abbrev pub last_rows : List Event → ℕ
last_rows log = drains_of (slice_get log (length log - 1))

-- how many rows a board keeps
abbrev pub rows_kept : {R : Type 0} → Held R → ℕ
rows_kept b = length (joined b.kept)
