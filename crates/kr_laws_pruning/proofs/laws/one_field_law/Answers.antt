use Rattle.kr_laws_pruning.proofs.AllEntries.{plain}
use Rattle.kr_laws_pruning.proofs.OneFieldEntries.{one_field_law_from}
use Rattle.kr_laws_pruning.proofs.laws.one_field_law.Goals as goal

pub returns : goal.returns
returns c = one_field_law_from plain
