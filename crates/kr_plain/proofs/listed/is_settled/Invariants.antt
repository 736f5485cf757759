use Rattle.kr_plain.specs.Plain.{IsSettledUpto}
use Rattle.kr_plain.proofs.listed.is_settled.Given as goal

abbrev pub invariant-loop-slot : goal.invariant-loop-slot
invariant-loop-slot g l = IsSettledUpto l.slot l.order (g.C.Candidate.vector l.candidates)
