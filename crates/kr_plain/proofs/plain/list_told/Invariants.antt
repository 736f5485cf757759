use Rattle.std.proofs.Common.{◌≡◌, ◌+◌, length}
use Rattle.kr_base.specs.declared.span.Bound.TheVariants.{At}
use Rattle.kr_mean.specs.Entries.{vectors}
use Rattle.kr_plain.specs.Plain.{mark_by}
use Rattle.kr_plain.proofs.Gone.{Trying, left_over}
use Rattle.kr_plain.proofs.plain.list_told.Given as goal

abbrev pub invariant-loop-more : goal.invariant-loop-more
invariant-loop-more g l = record {
  space : g.C.Slots.space l.candidates ≡ g.C.Slots.space l.initial.candidates;
  order : g.C.Candidate.order l.candidates ≡ g.C.Candidate.order l.initial.candidates;
  ending : g.C.Candidate.ending l.candidates ≡ g.C.Candidate.ending l.initial.candidates;
  trying : Trying (g.C.Slots.space l.initial.candidates) (g.C.Candidate.order l.initial.candidates) (mark_by (g.T.Telling.told l.telling) (g.C.Candidate.ending l.initial.candidates)) (At l.span.after) l.span.upto l.more (g.C.Candidate.vector l.candidates) l.found.items;
  runs : l.runs + left_over (g.C.Slots.space l.initial.candidates) l.more (g.C.Candidate.vector l.candidates) ≡ l.initial.runs + length (vectors (g.C.Slots.space l.initial.candidates));
}

abbrev pub decreases-loop-more : goal.decreases-loop-more
decreases-loop-more g l = left_over (g.C.Slots.space l.candidates) l.more (g.C.Candidate.vector l.candidates)
