use Rattle.korat_rows.proofs.WorkedWords.{worked}
use Rattle.korat_rows.proofs.words.worked_words.Goals as goal

pub returns : goal.returns
returns c = worked
