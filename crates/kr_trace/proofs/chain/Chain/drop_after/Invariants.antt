use Rattle.std.proofs.Common.{◌≡◌, true, length}
use Rattle.std.specs.Prelude.{is_some}
use Rattle.kr_core.specs.States.{segment_of}
use Rattle.kr_trace.proofs.Views.{cut_after}
use Rattle.kr_trace.proofs.chain.Chain.drop_after.Given as goal

abbrev pub invariant-loop : goal.invariant-loop
invariant-loop l = record {
  found : is_some (segment_of l.at l.self.segments) ≡ true;
  rest : cut_after l.at l.self.segments ≡ cut_after l.at l.fn.self.segments;
  made : l.self.made ≡ l.fn.self.made;
}

abbrev pub decreases-loop : goal.decreases-loop
decreases-loop l = length l.self.segments
