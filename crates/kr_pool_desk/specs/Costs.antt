-- To be believed: the runs of the predicate that a part accounts for.
use Rattle.std.specs.Prelude.{ℕ, ◌+◌, length, Result, Ok, Err}
use Rattle.kr_core.specs.declared.event.Lease.{Lease}
use Rattle.kr_survey.specs.declared.part.Part.{Part}
use Rattle.kr_board.specs.declared.board.reporting.Reported.{Reported}
use Rattle.kr_board.specs.declared.board.reporting.Reported.TheVariants.{Gone, Moved, Overrun, Full, Done, Go}

-- of a part that was scanned under a lease: one for each entry, and those of seeking the mark, one for each of its numbers and
-- three more
abbrev pub cost : {R : Type 0} → Lease → Part R → ℕ
cost lease part = part.tried + length lease.mark + 3

-- a part that is handed in is taken in or thrown away; but where it has no room, it comes back
abbrev pub accounted : {R E : Type 0} → ℕ → Result (Reported R) E → ℕ
accounted n (Ok Gone) = n
accounted n (Ok (Moved mark)) = n
accounted n (Ok (Overrun next)) = n
accounted n (Ok (Full lease part)) = 0
accounted n (Ok Done) = n
accounted n (Ok (Go next)) = n
accounted n (Err refused) = n
