use Rattle.std.proofs.Common.{true, false, ap, refl, sym, ◌∙◌}
use Rattle.kr_value.specs.declared.value.Value.{Value}
use Rattle.kr_mean.specs.Meaning.{change_from}
use Rattle.kr_mean.specs.Operators.{gives_old}
use Rattle.kr_mean.specs.Steps.{Outcome, assign, bind, give}
use Rattle.kr_run_state.specs.Worlds.{state_at}
use Rattle.kr_run_frames.specs.Frames.{out_value}
use Rattle.kr_run_frames.specs.Leads.{next_task}
use Rattle.kr_run_frames.proofs.Outcomes.{leads_alike}
use Rattle.kr_run_moves.proofs.Moves.{changes_local}
use Rattle.kr_run_moves.proofs.variables.step_to.Goals as goal

pub returns-then-gives_old : goal.returns-then-gives_old
returns-then-gives_old c =
    let code = c.args.code.now in
    let w = c.args.world.now in
    let fs = c.args.stack.now in
    let change = change_from (gives_old c.args.operator) c.args.old c.args.next in
    leads_alike code (next_task c.store_local.result c.store_local.new.task) c.store_local.new.stack c.store_local.new.world w (λ d x. out_value code d fs (bind (assign c.args.local change.new) (λ u. give change.given) (state_at w x))) (λ d x. out_value code d fs (bind (assign c.args.local c.args.next) (λ u. give c.args.old) (state_at w x)))
    (λ x d m. ap (λ (q : Outcome Value). out_value code d fs q) (changes_local c.args.operator c.args.local c.args.old c.args.next c.args.old (state_at w x) true (sym c.gives_old.ensures ∙ c.if-gives_old.true) refl refl))
    c.store_local.ensures

pub returns-else-gives_old : goal.returns-else-gives_old
returns-else-gives_old c =
    let code = c.args.code.now in
    let w = c.args.world.now in
    let fs = c.args.stack.now in
    let change = change_from (gives_old c.args.operator) c.args.old c.args.next in
    leads_alike code (next_task c.store_local-else-gives_old.result c.store_local-else-gives_old.new.task) c.store_local-else-gives_old.new.stack c.store_local-else-gives_old.new.world w (λ d x. out_value code d fs (bind (assign c.args.local change.new) (λ u. give change.given) (state_at w x))) (λ d x. out_value code d fs (bind (assign c.args.local c.args.next) (λ u. give c.args.next) (state_at w x)))
    (λ x d m. ap (λ (q : Outcome Value). out_value code d fs q) (changes_local c.args.operator c.args.local c.args.old c.args.next c.args.next (state_at w x) false (sym c.gives_old.ensures ∙ c.if-gives_old.false) refl refl))
    c.store_local-else-gives_old.ensures
