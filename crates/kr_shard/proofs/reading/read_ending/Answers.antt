use Rattle.std.proofs.Common.{◌∙◌, sym, arith}
use Rattle.std.proofs.lemmas.Bool.Decides.{nat_tests}
use Rattle.kr_shard.proofs.Fronts.{not_last}
use Rattle.kr_shard.proofs.reading.read_ending.Goals as goal

pub returns-else-is_empty : goal.returns-else-is_empty
returns-else-is_empty c =
    not_last c.args.upto.now c.args.front.now.last c.args.front.now.count c.args.text.now c.in-Some.line.now c.in-Some.after.now c.in-Some-2.ending
    c.in-Some.ensures.0 c.in-Some.ensures.1 (sym c.in-Some-2.is ∙ c.in_ok-ending.ensures) (grind (arith, nat_tests))
