use Rattle.std.proofs.Common.{◌≡◌, ◌++◌, take}
use Rattle.std.specs.Prelude.{map, reverse}
use Rattle.kr_mean.specs.Runs.{slots_for}
use Rattle.kr_space_layout.specs.Bounds.{bare}
use Rattle.kr_mean.specs.Places.{place_of}
use Rattle.kr_judge.specs.Follows.{AreOf, place_in}
use Rattle.kr_judge.proofs.accesses.add_places.Given as goal

abbrev pub invariant-reads : goal.invariant-reads
invariant-reads l = (map place_in l.places.items ≡ map place_in l.fn.places.items ++ map place_of (take l.place-index l.reads)) × AreOf (slots_for (bare l.layout)) (reverse l.places.items) l.order
