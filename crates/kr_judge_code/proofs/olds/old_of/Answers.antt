use Rattle.kr_judge_code.proofs.Stated.{old_is}
use Rattle.kr_judge_code.proofs.olds.old_of.Goals as goal

pub returns-in-Old : goal.returns-in-Old
returns-in-Old c = λ final. rw c.code_number.ensures (old_is c.args.is_named c.args.program.now c.requires.program c.args.at c.entry-entry.result c.entry-entry.ensures c.in-Old.operand c.in-Old.is final)
