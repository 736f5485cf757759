use Rattle.kr_value.specs.declared.value.Value.{Value}
use Rattle.kr_mean.specs.Meaning.{Change, stepped}
use Rattle.kr_mean.specs.Steps.{Run, assign, bind, give, read_local}
use Rattle.kr_code.specs.Doing.{Doing}
use Rattle.kr_run_frames.specs.Leads.{next_task}
use Rattle.kr_run_moves.proofs.Going.{no_value, value_then}
use Rattle.kr_run_moves.proofs.variables.step_local.Goals as goal

pub returns-in-Ok : goal.returns-in-Ok
returns-in-Ok c =
    let code = c.args.code.now in
    let w = c.args.world.now in
    let fs = c.args.stack.now in
    let then = c.read_local.new.world in
    let k : Change → Run Value = λ y. bind (assign c.args.local y.new) (λ u. give y.given) in
    value_then code (next_task c.step_from.result c.step_from.new.task) fs c.step_from.new.stack c.step_from.new.world then w (λ (d : Doing). read_local c.args.local) (λ (d : Doing) (v : Value). bind (stepped c.args.step v) k) c.in-Ok.old (λ x a. let y = c.in-Ok.ensures x a in (y.0, λ d i. y.1)) c.step_from.ensures

pub returns-in-Err : goal.returns-in-Err
returns-in-Err c =
    let k : Change → Run Value = λ y. bind (assign c.args.local y.new) (λ u. give y.given) in
    no_value c.args.code.now c.in-Err.halt c.args.stack.now c.read_local.new.world c.args.world.now (read_local c.args.local) (λ (d : Doing) (v : Value). bind (stepped c.args.step v) k) c.in-Err.ensures
