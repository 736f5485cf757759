use Rattle.std.proofs.Common.{◌≡◌, ◌++◌, drop}
use Rattle.kr_base.specs.declared.span.Bound.TheVariants.{At}
use Rattle.kr_trace.specs.Chains.{nodes_at}
use Rattle.kr_trace.proofs.nodes.nodes_at.Given as goal

abbrev pub invariant-loop-cut : goal.invariant-loop-cut
invariant-loop-cut l =
    (l.number ≡ l.cut-index)
    × (nodes_at 0 (At l.after) l.cuts l.end ≡ l.nodes.items ++ nodes_at l.cut-index (At l.begin) (drop l.cut-index l.cuts) l.end)
