use Rattle.std.proofs.Common.{◌+◌, ℕ, ap}
use Rattle.kr_run_state.specs.Worlds.{state_of}
use Rattle.kr_contract.proofs.Signalled.{signals_next, signals_stop}
use Rattle.kr_contract.proofs.signals.check_signals.Goals as goal

pub returns-in-Some : goal.returns-in-Some
returns-in-Some c =
    signals_stop c.args.code.now c.args.kind c.args.object c.args.signals.now (state_of c.args.world.now) (c.signals.number + 1) c.signals.signal-index _ (state_of c.signals.world) c.in-Some.verdict c.in_ok-verdict.field-0 c.check_signal.new.world c.signals-test.true c.in-Some.is c.signals.invariant.1
    (rw c.class_in_kind-class.ensures at c.in_ok-verdict.ensures)

pub signals-preserved : goal.signals-preserved
signals-preserved c =
    let next = signals_next c.args.code.now c.args.kind c.args.object c.args.signals.now (state_of c.args.world.now) (c.signals.number + 1) c.signals.signal-index _ (state_of c.signals.world) c.in_ok-verdict.field-0 c.check_signal.new.world c.signals-test.true c.in-None.is c.signals.invariant.1
    (rw c.class_in_kind-class.ensures at c.in_ok-verdict.ensures) in
    (next.0, next.1, ap (λ (n : ℕ). n + 1) c.signals.invariant.2)
