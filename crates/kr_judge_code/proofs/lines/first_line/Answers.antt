use Rattle.kr_judge_code.proofs.Stated.{first_is}
use Rattle.kr_judge_code.proofs.lines.first_line.Goals as goal

pub returns : goal.returns
returns c = first_is c.args.program.now c.requires.program c.args.list c.requires.shape c.first_item.result c.first_item.ensures.none c.first_item.ensures.here
