use Rattle.std.proofs.Common.{◌≡◌, take}
use Rattle.kr_mean.specs.Runs.{key_along}
use Rattle.kr_plain.proofs.listed.last_key.Given as goal

abbrev pub invariant-loop-slot : goal.invariant-loop-slot
invariant-loop-slot g l = l.numbers.items ≡ key_along (g.C.Candidate.vector l.candidates) (take l.slot-index l.order)
