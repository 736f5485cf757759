use Rattle.kr_laws_types.proofs.Shapes.{file_shape}
use Rattle.kr_laws_types.proofs.derivation.shape_law.Goals as goal

pub returns : goal.returns
returns c = file_shape
