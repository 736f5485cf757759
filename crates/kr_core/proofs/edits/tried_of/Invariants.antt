use Rattle.std.proofs.Common.{◌≡◌, take}
use Rattle.std.specs.List.{sum_by}
use Rattle.kr_base.specs.Causes.{capped}
use Rattle.kr_core.proofs.edits.tried_of.Given as goal

abbrev pub invariant-loop-segment : goal.invariant-loop-segment
invariant-loop-segment l = l.tried ≡ capped (sum_by (λ s. s.tried) (take l.segment-index l.segments))
