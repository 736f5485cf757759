use Rattle.kr_iso.proofs.Rows.{alone}
use Rattle.kr_step.specs.Bases.{bases}
use Rattle.kr_step_tests.proofs.bases.BasesSlots.row.Goals as goal

pub returns : goal.returns
returns c = alone bases c.args._slot c.args._index c.requires.index
