use Rattle.std.proofs.Common.{◌≡◌, drop}
use Rattle.kr_mean.specs.Runs.{contains_number}
use Rattle.kr_emit.proofs.objects.is_among.Given as goal

abbrev pub invariant-loop-other : goal.invariant-loop-other
invariant-loop-other l = contains_number l.objects l.object ≡ contains_number (drop l.other-index l.objects) l.object
