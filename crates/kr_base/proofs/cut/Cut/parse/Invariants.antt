use Rattle.std.proofs.Common.{ℕ, List, take}
use Rattle.kr_base.specs.Stages.{IsAt}
use Rattle.kr_base.proofs.cut.Cut.parse.Given as goal

abbrev pub invariant-loop-at : goal.invariant-loop-at
invariant-loop-at l = (done : List ℕ) × IsAt (take l.at l.bytes) done l.reading.begun l.reading.kept.items l.reading.count
