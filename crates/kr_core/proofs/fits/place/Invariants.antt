use Rattle.std.proofs.Common.{◌≡◌, ◌+◌, drop}
use Rattle.kr_core.specs.States.{place_of}
use Rattle.kr_core.proofs.fits.place.Given as goal

abbrev pub invariant-loop-i : goal.invariant-loop-i
invariant-loop-i l = place_of l.number l.segments ≡ l.i + place_of l.number (drop l.i l.segments)
