use Rattle.std.proofs.Common.{Err, ap, sym, ◌∙◌}
use Rattle.kr_value.specs.declared.value.Value.{Value}
use Rattle.kr_value.specs.declared.value.Value.TheVariants.{Int}
use Rattle.std.specs.Prelude.{pos}
use Rattle.kr_mean.specs.Meaning.{Change, change_from, stepped}
use Rattle.kr_mean.specs.declared.operations.BinaryOperation.{BinaryOperation}
use Rattle.kr_mean.specs.Operators.{gives_old, operated}
use Rattle.kr_mean.specs.Steps.{Outcome, Run, assign, bind, give, say}
use Rattle.kr_code.specs.Doing.{Doing}
use Rattle.kr_run_state.specs.Worlds.{state_at}
use Rattle.kr_run_frames.specs.Frames.{out_value}
use Rattle.kr_run_frames.specs.Leads.{next_task}
use Rattle.kr_run_frames.proofs.Outcomes.{leads_alike}
use Rattle.kr_run_moves.proofs.Going.{no_value, value_then}
use Rattle.kr_run_moves.proofs.Moves.{then_mapped}
use Rattle.kr_run_moves.proofs.variables.step_from.Goals as goal

pub returns-in-Ok : goal.returns-in-Ok
returns-in-Ok c =
    let code = c.args.code.now in
    let w = c.args.world.now in
    let fs = c.args.stack.now in
    let step = c.args.step in
    let r = next_task c.step_to.result c.step_to.new.task in
    let m = say (operated c.step_operation.result c.args.old (Int (pos 1))) in
    let h : Value → Change = change_from (gives_old step.operator) c.args.old in
    let k : Change → Run Value = λ y. bind (assign c.args.local y.new) (λ u. give y.given) in
    leads_alike code r c.step_to.new.stack c.step_to.new.world w (λ d x. out_value code d fs (bind (stepped step c.args.old) k (state_at w x))) (λ d x. out_value code d fs (bind m (λ v. k (h v)) (state_at w x)))
    (λ x d i.
    ap (λ (o : BinaryOperation). out_value code d fs (bind (bind (say (operated o c.args.old (Int (pos 1)))) (λ v. give (h v))) k (state_at w x))) (sym c.step_operation.ensures)
    ∙ ap (λ (q : Outcome Value). out_value code d fs q) (then_mapped m h k (state_at w x)))
    (value_then code r fs c.step_to.new.stack c.step_to.new.world w w (λ (d : Doing). m) (λ (d : Doing) (v : Value). k (h v)) c.in-Ok.next (λ x a. let y = c.in-Ok.ensures x a in (y.0, λ d i. y.1)) c.step_to.ensures)

pub returns-in-Err : goal.returns-in-Err
returns-in-Err c =
    let code = c.args.code.now in
    let w = c.args.world.now in
    let fs = c.args.stack.now in
    let step = c.args.step in
    let m = say (operated c.step_operation.result c.args.old (Int (pos 1))) in
    let h : Value → Change = change_from (gives_old step.operator) c.args.old in
    let k : Change → Run Value = λ y. bind (assign c.args.local y.new) (λ u. give y.given) in
    leads_alike code (Err c.in-Err.halt) fs w w (λ d x. out_value code d fs (bind (stepped step c.args.old) k (state_at w x))) (λ d x. out_value code d fs (bind m (λ v. k (h v)) (state_at w x)))
    (λ x d i.
    ap (λ (o : BinaryOperation). out_value code d fs (bind (bind (say (operated o c.args.old (Int (pos 1)))) (λ v. give (h v))) k (state_at w x))) (sym c.step_operation.ensures)
    ∙ ap (λ (q : Outcome Value). out_value code d fs q) (then_mapped m h k (state_at w x)))
    (no_value code c.in-Err.halt fs w w m (λ (d : Doing) (v : Value). k (h v)) c.in-Err.ensures)
