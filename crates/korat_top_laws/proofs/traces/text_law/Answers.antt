use Rattle.korat_top_laws.proofs.Texts.{traced}
use Rattle.korat_top_laws.proofs.traces.text_law.Goals as goal

pub returns : goal.returns
returns c = traced
