use Rattle.korat_top_files.proofs.Uniqueness.{one_outcome}
use Rattle.korat_top_files.proofs.laws.one_outcome.Goals as goal

pub returns : goal.returns
returns c = one_outcome c.one_list_law.ensures c.unbroken_law.ensures c.one_refusal_law.ensures.one c.one_refusal_law.ensures.unbroken c.one_tree.ensures
