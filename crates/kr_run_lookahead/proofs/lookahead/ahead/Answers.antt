use Rattle.std.specs.Prelude.{None}
use Rattle.kr_run_lookahead.proofs.Goes.{read_told}
use Rattle.kr_run_lookahead.proofs.lookahead.ahead.Goals as goal

pub returns-in-Some-clause-told : goal.returns-in-Some-clause-told
returns-in-Some-clause-told c = read_told c.args.code.now c.args.stack.now c.args.world.now c.read.new.world c.value_ahead.new.world c.args.action c.in-Some.given c.value_ahead.result (c.in-Some.ensures.agrees None tt).1 c.value_ahead.ensures.spent c.value_ahead.ensures.told
