use Rattle.kr_laws_never_stuck.proofs.Apart.{apart}
use Rattle.kr_laws_never_stuck.proofs.places.apart_law.Goals as goal

pub returns : goal.returns
returns c = apart
