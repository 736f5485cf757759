use Rattle.std.proofs.Common.{sym, ◌∙◌}
use Rattle.kr_contract.proofs.Signalled.{fits_at, passed_at}
use Rattle.kr_contract.proofs.signals.none_fits.Goals as goal

pub returns-then-is_caught_by : goal.returns-then-is_caught_by
returns-then-is_caught_by c =
    fits_at c.args.code.now c.args.kind c.args.signals.now c.signals.signal-index _ c.signals-test.true c.signals.invariant (rw c.class_in_kind-class.ensures at (sym c.is_caught_by.ensures ∙ c.if-is_caught_by.true))

pub signals-preserved : goal.signals-preserved
signals-preserved c =
    passed_at c.args.code.now c.args.kind c.args.signals.now c.signals.signal-index _ c.signals-test.true c.signals.invariant (rw c.class_in_kind-class.ensures at (sym c.is_caught_by.ensures ∙ c.if-is_caught_by.false))
