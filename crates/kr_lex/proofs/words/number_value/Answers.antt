use Rattle.kr_lex.proofs.Numbers.{wider}
use Rattle.kr_lex.proofs.words.number_value.Goals as goal

pub digits_value-requires : goal.digits_value-requires
digits_value-requires c = wider c.args.word.now c.requires
