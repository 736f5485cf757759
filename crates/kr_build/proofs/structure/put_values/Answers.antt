use Rattle.std.proofs.Common.{length}
use Rattle.kr_mean.specs.Problem.{slots}
use Rattle.kr_space_layout.specs.Bounds.{bare}
use Rattle.kr_build.proofs.Below.{below_at}
use Rattle.kr_build.proofs.structure.put_values.Goals as goal

pub value_of-requires-clause-slot : goal.value_of-requires-clause-slot
value_of-requires-clause-slot c = below_at (length (slots (bare c.args.layout.now))) c.args.places.now c.loop-slot.slot-index c.requires.inside c.loop-slot-test.true
