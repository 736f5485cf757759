use Rattle.std.proofs.Common.{length}
use Rattle.kr_plain.proofs.Along.{below_at}
use Rattle.kr_plain.proofs.listed.last_key.Goals as goal

pub index-requires : goal.index-requires
index-requires g c =
    below_at (length (g.C.Candidate.vector c.args.candidates.now)) c.last_order-order.result.now c.loop-slot.slot-index
    (rw c.last_order-order.ensures c.requires) c.loop-slot-test.true
