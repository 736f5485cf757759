use Rattle.kr_laws_never_stuck.proofs.Typed.{domains_typed}
use Rattle.kr_laws_never_stuck.proofs.domain_types.domain_types_law.Goals as goal

pub returns : goal.returns
returns c = domains_typed
