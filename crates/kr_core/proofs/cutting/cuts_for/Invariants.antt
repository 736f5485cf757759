use Rattle.std.proofs.Common.{◌≡◌}
use Rattle.kr_core.specs.Cutting.{cuts_for}
use Rattle.kr_core.proofs.cutting.cuts_for.Given as goal

abbrev pub invariant-loop-number : goal.invariant-loop-number
invariant-loop-number l = l.cuts.items ≡ cuts_for l.span l.number
