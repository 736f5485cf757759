use Rattle.std.proofs.Common.{None, ap, ◌∙◌}
use Rattle.kr_value.specs.declared.value.Value.{Value}
use Rattle.kr_mean.specs.Runs.{where_true}
use Rattle.kr_run_state.specs.Noting.{noting}
use Rattle.kr_run_state.specs.Worlds.{state_of}
use Rattle.kr_judge.proofs.Holding.{followed, halted, stuck}
use Rattle.kr_judge.proofs.conditions.holds.Goals as goal

pub returns-in-Err : goal.returns-in-Err
returns-in-Err c = halted c.args.code.now c.in-Err.halt c.evaluate.new.world c.args.world.now c.args.condition c.in-Err.ensures

pub returns-in-Bool : goal.returns-in-Bool
returns-in-Bool c = λ d m rest.
    followed (d.value c.args.condition) (λ v. where_true v rest) c.args.world.now.reads c.evaluate.new.world.reads (state_of c.args.world.now) (state_of c.evaluate.new.world) c.in-Ok.value ((c.in-Ok.ensures None tt).1 d m)
    ∙ ap (λ (v : Value). noting c.evaluate.new.world.reads (where_true v rest (state_of c.evaluate.new.world))) c.in-Bool.is

pub returns-in-Int : goal.returns-in-Int
returns-in-Int c = λ d m rest.
    stuck (d.value c.args.condition) rest c.args.world.now.reads (state_of c.args.world.now) c.in-Ok.value c.evaluate.new.world ((c.in-Ok.ensures None tt).1 d m)
    (ap (λ (v : Value). where_true v rest (state_of c.evaluate.new.world)) c.in-Int.is)

pub returns-in-Null : goal.returns-in-Null
returns-in-Null c = λ d m rest.
    stuck (d.value c.args.condition) rest c.args.world.now.reads (state_of c.args.world.now) c.in-Ok.value c.evaluate.new.world ((c.in-Ok.ensures None tt).1 d m)
    (ap (λ (v : Value). where_true v rest (state_of c.evaluate.new.world)) c.in-Null.is)

pub returns-in-Ref : goal.returns-in-Ref
returns-in-Ref c = λ d m rest.
    stuck (d.value c.args.condition) rest c.args.world.now.reads (state_of c.args.world.now) c.in-Ok.value c.evaluate.new.world ((c.in-Ok.ensures None tt).1 d m)
    (ap (λ (v : Value). where_true v rest (state_of c.evaluate.new.world)) c.in-Ref.is)
