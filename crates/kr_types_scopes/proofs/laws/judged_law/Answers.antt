use Rattle.kr_types_scopes.proofs.Notes.{all_judged}
use Rattle.kr_types_scopes.proofs.laws.judged_law.Goals as goal

pub returns : goal.returns
returns c g bs ws ns a s h i l = all_judged g bs ws ns a s h i l
