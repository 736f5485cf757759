use Rattle.kr_space_meaning.proofs.WellFormed.{well_formed}
use Rattle.kr_space_meaning.proofs.laws.well_formed_law.Goals as goal

pub returns : goal.returns
returns c = well_formed
