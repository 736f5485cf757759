use Rattle.std.proofs.Common.{drop}
use Rattle.kr_plain.proofs.Along.{Goes}
use Rattle.kr_plain.proofs.least.is_allowed_along.Given as goal

abbrev pub invariant-loop-slot : goal.invariant-loop-slot
invariant-loop-slot g l = Goes (g.C.Slots.space l.candidates) (g.C.Candidate.vector l.candidates) l.path.items (drop l.slot-index l.order) l.order
