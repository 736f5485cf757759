use Rattle.std.proofs.Common.{◌≡◌, drop}
use Rattle.std.specs.List.{list_any}
use Rattle.kr_core.specs.States.{is_owned}
use Rattle.kr_board.proofs.board.taking.any_owned.Given as goal

abbrev pub invariant-loop-segment : goal.invariant-loop-segment
invariant-loop-segment l = list_any (λ g. is_owned g.owner) l.segments ≡ list_any (λ g. is_owned g.owner) (drop l.segment-index l.segments)
