use Rattle.std.proofs.Common.{arith}
use Rattle.std.proofs.lemmas.Grind.{common_steps}
use Rattle.kr_text.proofs.Splits.{first_line_by, no_line_is}
use Rattle.kr_text.proofs.splitting.first_line.Goals as goal

pub returns-then-at-text : goal.returns-then-at-text
returns-then-at-text c = first_line_by c.args.text.now _ _ c.place_of-at.result c.place_of-at.ensures c.if-at-text.true (grind (arith, common_steps)) (grind (arith, common_steps))

pub returns-else-at-text : goal.returns-else-at-text
returns-else-at-text c = no_line_is c.args.text.now (omega (arith, c.place_of-at.ensures, c.if-at-text.false))
