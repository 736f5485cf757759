use Rattle.kr_types_scopes.proofs.Noted.{noted_is}
use Rattle.kr_types_scopes.proofs.laws.local_law.Goals as goal

pub returns : goal.returns
returns c s t look h = noted_is s look t h
