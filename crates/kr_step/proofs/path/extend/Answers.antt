use Rattle.std.proofs.Common.{length}
use Rattle.kr_step.proofs.Turns.{below_at}
use Rattle.kr_step.proofs.path.extend.Goals as goal

pub index-requires : goal.index-requires
index-requires g c =
    below_at (length (g.C.Candidate.vector c.args.candidates.now)) c.last_order-order.result.now c.loop-at.at
    (rw c.last_order-order.ensures c.requires) c.loop-at-test.true
