use Rattle.std.proofs.Common.{◌≡◌}
use Rattle.kr_mean.specs.Space.{IsVector}
use Rattle.kr_samples.proofs.vectors.change.Given as goal

abbrev pub invariant-loop-slot : goal.invariant-loop-slot
invariant-loop-slot g l = record {
  space : g.C.Slots.space l.candidates ≡ g.C.Slots.space l.initial.candidates;
  vector : IsVector (g.C.Slots.space l.initial.candidates) (g.C.Candidate.vector l.candidates);
}
