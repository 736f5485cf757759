use Rattle.kr_code_lowering.proofs.Items.{ahead}
use Rattle.kr_code_lowering.proofs.lists.first_item.Goals as goal

pub returns-in-Cons-clause-none : goal.returns-in-Cons-clause-none
returns-in-Cons-clause-none c = ahead c.args.program.now c.requires.program c.args.list c.entry.result c.entry.ensures c.in-Cons.first c.in-Cons.rest c.in-Cons.is

pub returns-in-Cons-clause-here : goal.returns-in-Cons-clause-here
returns-in-Cons-clause-here c = record { entry = c.entry.result; here = c.entry.ensures; node = c.in-Cons.is }
