use Rattle.std.proofs.Common.{◌∙◌, ap}
use Rattle.kr_core.specs.States.{segment_of}
use Rattle.kr_core.specs.Reaches.{closes}
use Rattle.kr_core.proofs.LeaseFacts.{closes_end}
use Rattle.kr_core.proofs.leases.lease_from.Goals as goal

pub returns-in-End-clause-none : goal.returns-in-End-clause-none
returns-in-End-clause-none c =
    ap (λ b. closes b (segment_of c.args.number c.args.segments.now)) c.in-End.is ∙ closes_end (segment_of c.args.number c.args.segments.now)
