use Rattle.std.proofs.Common.{take}
use Rattle.kr_pure.specs.Touched.{IsFirstTouch}
use Rattle.kr_pure.proofs.purity.first_touch.Given as goal

abbrev pub invariant-loop-next : goal.invariant-loop-next
invariant-loop-next l = IsFirstTouch l.problem (take l.next l.nodes.items) l.first
