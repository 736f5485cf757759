use Rattle.std.proofs.Common.{◌≡◌, length}
use Rattle.kr_trace.proofs.Views.{DrainLeft}
use Rattle.kr_trace.proofs.chain.Chain.drain.Given as goal

abbrev pub invariant-loop-more : goal.invariant-loop-more
invariant-loop-more l = record {
  left_is : DrainLeft l.fn.self.segments l.self.segments l.tried;
  made : l.self.made ≡ l.fn.self.made;
}

abbrev pub decreases-loop-more : goal.decreases-loop-more
decreases-loop-more l = length l.self.segments
