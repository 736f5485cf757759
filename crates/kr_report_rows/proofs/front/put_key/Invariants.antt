use Rattle.std.proofs.Common.{◌≡◌, ◌++◌, List, ℕ, drop}
use Rattle.std.specs.Prelude.{flat_map}
use Rattle.kr_base.specs.Told.{Added}
use Rattle.kr_base.specs.Cuts.{cut_text, dotted}
use Rattle.kr_report_rows.proofs.front.put_key.Given as goal

-- some of the key is written, and the other numbers are left
abbrev pub invariant-loop-number : goal.invariant-loop-number
invariant-loop-number g l = (sent : List ℕ) × (cut_text l.fn.key ≡ sent ++ flat_map dotted (drop l.number-index l.rest)) × Added g.K.Sink.taken g.K.Sink.faults l.fn.out l.out sent
