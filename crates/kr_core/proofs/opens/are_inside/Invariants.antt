use Rattle.std.proofs.Common.{◌↔◌, drop}
use Rattle.kr_base.specs.declared.span.Bound.TheVariants.{At}
use Rattle.kr_core.specs.Openings.{AscendBetween}
use Rattle.kr_core.proofs.opens.are_inside.Given as goal

abbrev pub invariant-loop-cut : goal.invariant-loop-cut
invariant-loop-cut l = AscendBetween (At l.span.after) l.cuts l.span.upto ↔ AscendBetween (At l.begin) (drop l.cut-index l.cuts) l.span.upto
