use Rattle.std.proofs.Common.{◌≡◌, drop}
use Rattle.std.specs.Prelude.{is_some}
use Rattle.std.specs.List.{find}
use Rattle.kr_board.specs.Taking.{theft_of}
use Rattle.kr_board.proofs.board.taking.first_victim.Given as goal

abbrev pub invariant-loop-segment : goal.invariant-loop-segment
invariant-loop-segment l = find (λ g. is_some (theft_of g)) l.segments ≡ find (λ g. is_some (theft_of g)) (drop l.segment-index l.segments)
