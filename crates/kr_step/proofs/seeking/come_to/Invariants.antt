use Rattle.std.proofs.Common.{◌≡◌, ◌+◌, take}
use Rattle.kr_step.specs.Steps.{IsFront, indices_of}
use Rattle.kr_step.proofs.seeking.come_to.Given as goal

abbrev pub invariant-loop-number : goal.invariant-loop-number
invariant-loop-number g l = record {
  space : g.C.Slots.space l.candidates ≡ g.C.Slots.space l.initial.candidates;
  order : g.C.Candidate.order l.candidates ≡ g.C.Candidate.order l.initial.candidates;
  ending : g.C.Candidate.ending l.candidates ≡ g.C.Candidate.ending l.initial.candidates;
  front : IsFront (g.C.Slots.space l.initial.candidates) (g.C.Candidate.order l.initial.candidates) (g.C.Candidate.vector l.candidates) l.path.items;
  numbers : indices_of l.path.items ≡ take l.number-index l.after;
  runs : l.runs ≡ l.initial.runs + l.number-index;
}
