use Rattle.std.proofs.Common.{◌≡◌, drop}
use Rattle.std.specs.List.{find}
use Rattle.kr_board.specs.Taking.{is_free}
use Rattle.kr_board.proofs.board.taking.first_free.Given as goal

abbrev pub invariant-loop-segment : goal.invariant-loop-segment
invariant-loop-segment l = find is_free l.segments ≡ find is_free (drop l.segment-index l.segments)
