use Rattle.std.proofs.Common.{◌≡◌, ◌++◌, List, ℕ, drop}
use Rattle.kr_base.specs.Told.{Added}
use Rattle.kr_shard.proofs.Pieces.{all_bytes}
use Rattle.kr_shard.proofs.writing.put_rows.Given as goal

abbrev pub invariant-loop-at : goal.invariant-loop-at
invariant-loop-at g l = (sent : List ℕ) × (all_bytes l.rows ≡ sent ++ all_bytes (drop l.at l.rows)) × Added g.K.Sink.taken g.K.Sink.faults l.fn.out l.out sent
