use Rattle.std.proofs.Common.{◌≡◌, ◌++◌, List, ℕ, length}
use Rattle.kr_base.specs.Told.{Added}
use Rattle.kr_base.proofs.sink.put_all.Given as goal

abbrev pub invariant-loop-rest : goal.invariant-loop-rest
invariant-loop-rest g l = (sent : List ℕ) × (l.bytes ≡ sent ++ l.rest) × Added g.K.Sink.taken g.K.Sink.faults l.fn.out l.out sent

abbrev pub decreases-loop-rest : goal.decreases-loop-rest
decreases-loop-rest g l = length l.rest
