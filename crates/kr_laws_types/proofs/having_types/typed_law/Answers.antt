use Rattle.kr_laws_types.proofs.Typed.{has_type}
use Rattle.kr_laws_types.proofs.having_types.typed_law.Goals as goal

pub returns : goal.returns
returns c = has_type
