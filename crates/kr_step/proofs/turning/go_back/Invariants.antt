use Rattle.std.proofs.Common.{◌≡◌, ◌++◌, ℕ, List, vec_len}
use Rattle.kr_step.specs.Steps.{IsStuck}
use Rattle.kr_step.proofs.turning.go_back.Given as goal

abbrev pub invariant-loop-slot : goal.invariant-loop-slot
invariant-loop-slot g l = record {
  space : g.C.Slots.space l.candidates ≡ g.C.Slots.space l.initial.candidates;
  order : g.C.Candidate.order l.candidates ≡ g.C.Candidate.order l.initial.candidates;
  ending : g.C.Candidate.ending l.candidates ≡ g.C.Candidate.ending l.initial.candidates;
  some : (c : List ℕ) × IsStuck (g.C.Slots.space l.initial.candidates) (g.C.Candidate.order l.initial.candidates) c (g.C.Candidate.vector l.candidates) l.path.items;
  stuck : (c : List ℕ) → IsStuck (g.C.Slots.space l.initial.candidates) (g.C.Candidate.order l.initial.candidates) c (g.C.Candidate.vector l.initial.candidates) l.initial.path.items
      → IsStuck (g.C.Slots.space l.initial.candidates) (g.C.Candidate.order l.initial.candidates) c (g.C.Candidate.vector l.candidates) l.path.items;
  gone : (rest : List (ℕ × ℕ)) × (l.initial.path.items ≡ l.path.items ++ rest);
}

abbrev pub decreases-loop-slot : goal.decreases-loop-slot
decreases-loop-slot g l = vec_len l.path
