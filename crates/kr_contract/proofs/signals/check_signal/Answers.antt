use Rattle.std.proofs.Common.{Bool, sym, ◌∙◌, subst}
use Rattle.std.specs.Prelude.{IfOk}
use Rattle.kr_run_state.specs.Worlds.{state_of}
use Rattle.kr_contract.specs.Tests.{Holds, signal_judged}
use Rattle.kr_contract.proofs.signals.check_signal.Goals as goal

pub returns : goal.returns
returns c =
    subst (λ (b : Bool). IfOk c.check.result (λ said. Holds c.args.code.now said c.check.new.world (λ d next. signal_judged d c.args.object c.args.number c.args.signal b (state_of c.args.world.now) next)))
    (sym c.if-not-is_caught_by.false ∙ c.is_caught_by.ensures) c.check.ensures
