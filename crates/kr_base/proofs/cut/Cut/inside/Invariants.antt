use Rattle.std.proofs.Common.{◌≡◌, drop}
use Rattle.kr_base.specs.Inside.{inside_of, onward}
use Rattle.kr_base.proofs.cut.Cut.inside.Given as goal

abbrev pub invariant-loop-number : goal.invariant-loop-number
invariant-loop-number l = inside_of l.number-items l.bound ≡ onward l.front.items (drop l.number-index l.number-items) l.bound
