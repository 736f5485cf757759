use Rattle.kr_space_layout.specs.Bounds.{bare}
use Rattle.kr_build.proofs.Rows.{in_vector}
use Rattle.kr_build.proofs.updates.take_on.Goals as goal

pub get-requires : goal.get-requires
get-requires c = (in_vector (bare c.args.layout.now) c.args.vector.now c.args.slot c.requires.vector c.requires.slot).slot
