use Rattle.kr_core.specs.States.{segment_of}
use Rattle.kr_core.proofs.LeaseFacts.{untaken_end}
use Rattle.kr_core.proofs.leases.lease_of.Goals as goal

pub unreachable-requires-in_default-mark : goal.unreachable-requires-in_default-mark
unreachable-requires-in_default-mark c =
    cc (untaken_end c.in-Some.segment.now (segment_of c.args.number c.args.segments.now) c.in-Some.ensures.some c.in_default-mark.is, c.requires)
