use Rattle.kr_laws_safety.proofs.Values.{values_safe}
use Rattle.kr_laws_safety.proofs.value_laws.values_law.Goals as goal

pub returns : goal.returns
returns c program fixed parts facts safe = values_safe program fixed facts parts safe
