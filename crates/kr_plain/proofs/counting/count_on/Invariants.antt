use Rattle.std.proofs.Common.{◌≡◌}
use Rattle.kr_plain.proofs.Carries.{Cleared}
use Rattle.kr_plain.proofs.counting.count_on.Given as goal

abbrev pub invariant-loop-slot : goal.invariant-loop-slot
invariant-loop-slot g l = record {
  space : g.C.Slots.space l.candidates ≡ g.C.Slots.space l.initial.candidates;
  order : g.C.Candidate.order l.candidates ≡ g.C.Candidate.order l.initial.candidates;
  ending : g.C.Candidate.ending l.candidates ≡ g.C.Candidate.ending l.initial.candidates;
  cleared : Cleared (g.C.Slots.space l.initial.candidates) (g.C.Candidate.vector l.initial.candidates) l.slot (g.C.Candidate.vector l.candidates);
}

abbrev pub decreases-loop-slot : goal.decreases-loop-slot
decreases-loop-slot g l = l.slot
