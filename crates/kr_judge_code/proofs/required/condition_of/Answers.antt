use Rattle.kr_judge_code.proofs.Stated.{required_is}
use Rattle.kr_judge_code.proofs.required.condition_of.Goals as goal

pub returns-in-Requires : goal.returns-in-Requires
returns-in-Requires c = λ s final runs. rw c.code_number.ensures (required_is c.args.program.now c.requires.program c.args.line c.entry.result c.entry.ensures c.in-Requires.condition c.in-Requires.is s final runs)
