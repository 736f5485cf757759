use Rattle.korat_top_laws.proofs.Words.{words_law}
use Rattle.korat_top_laws.proofs.laws.words_law.Goals as goal

pub returns : goal.returns
returns c = words_law c.reading_law.ensures.computed
