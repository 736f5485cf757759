use Rattle.std.proofs.Common.{sym, ◌∙◌}
use Rattle.kr_run.proofs.Passing.{catches, not_caught}
use Rattle.kr_run.proofs.unwinding.catch_or_end.Goals as goal

pub returns-in-None : goal.returns-in-None
returns-in-None c = absurd (not_caught c.args.code.now c.args.why c.in-Some.top.now c.args.stack.now c.in-Some.ensures c.requires (sym c.catcher.ensures ∙ c.in-None.is))

pub returns-in-Some-catcher : goal.returns-in-Some-catcher
returns-in-Some-catcher c =
    catches c.args.code.now c.args.why c.in-Some-catcher.caught c.in-Some.top.now c.args.stack.now c.drop_top.new.self c.args.world.now c.in-Some.ensures c.drop_top.ensures
    (sym c.catcher.ensures ∙ c.in-Some-catcher.is)
