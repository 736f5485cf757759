use Rattle.kr_iso.proofs.Moves.{renaming}
use Rattle.kr_iso.proofs.laws.renaming_law.Goals as goal

pub returns : goal.returns
returns c = renaming
