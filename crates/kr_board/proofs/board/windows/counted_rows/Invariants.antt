use Rattle.std.proofs.Common.{◌≡◌, take}
use Rattle.std.specs.List.{sum_by}
use Rattle.kr_base.specs.Causes.{capped}
use Rattle.kr_board.proofs.board.windows.counted_rows.Given as goal

abbrev pub invariant-loop-segment : goal.invariant-loop-segment
invariant-loop-segment l = l.rows ≡ capped (sum_by (λ s. s.rows) (take l.segment-index l.segments))
