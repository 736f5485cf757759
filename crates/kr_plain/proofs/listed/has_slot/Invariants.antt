use Rattle.std.proofs.Common.{◌≡◌, drop}
use Rattle.kr_mean.specs.Runs.{contains_number}
use Rattle.kr_plain.proofs.listed.has_slot.Given as goal

abbrev pub invariant-loop-other : goal.invariant-loop-other
invariant-loop-other l = contains_number l.slots l.slot ≡ contains_number (drop l.other-index l.slots) l.slot
