-- The lines of a log that was worked out by hand.
use Rattle.std.proofs.Common.{refl}
use Rattle.std.specs.Fmt.{digits}
use Rattle.kr_report_streaming.specs.Worked.{AreLines}

pub worked : AreLines
unfolding digits
worked = refl
