use Rattle.std.proofs.Common.{◌≡◌, ◌++◌, List, ℕ, drop}
use Rattle.std.specs.Prelude.{flat_map}
use Rattle.kr_base.specs.Told.{Added}
use Rattle.kr_base.specs.Cuts.{cut_text, dotted}
use Rattle.kr_base.proofs.cut.Cut.write.Given as goal

abbrev pub invariant-loop-number : goal.invariant-loop-number
invariant-loop-number g l = (sent : List ℕ) × (cut_text l.self ≡ sent ++ flat_map dotted (drop l.number-index l.rest)) × Added g.K.Sink.taken g.K.Sink.faults l.fn.out l.out sent
