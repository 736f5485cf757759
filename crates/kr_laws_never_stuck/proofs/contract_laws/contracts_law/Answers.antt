use Rattle.kr_laws_never_stuck.proofs.Contracts.{contracts_typed}
use Rattle.kr_laws_never_stuck.proofs.contract_laws.contracts_law.Goals as goal

pub returns : goal.returns
returns c = contracts_typed
