use Rattle.kr_laws_never_stuck.proofs.Apart.{fields_apart}
use Rattle.kr_laws_never_stuck.proofs.places.fields_law.Goals as goal

pub returns : goal.returns
returns c = fields_apart
