use Rattle.std.proofs.Common.{◌≡◌, ◌≤◌, ◌-◌, take, length}
use Rattle.std.specs.Prelude.{map}
use Rattle.kr_mean.specs.Places.{place_of}
use Rattle.kr_judge.specs.Follows.{place_in}
use Rattle.kr_judge.proofs.accesses.common.Given as goal

abbrev pub invariant-places : goal.invariant-places
invariant-places l = (l.count ≤ length l.places) × (l.count ≤ length l.reads) × (map place_in (take l.count l.places) ≡ map place_of (take l.count l.reads))

abbrev pub decreases-places : goal.decreases-places
decreases-places l = length l.places - l.count
