use Rattle.std.proofs.Common.{◌≡◌, ◌+◌, drop}
use Rattle.kr_run_state.specs.Worlds.{state_of}
use Rattle.kr_contract.specs.Tests.{IsPlain}
use Rattle.kr_contract.proofs.Signalled.{SignalsLead}
use Rattle.kr_contract.proofs.signals.check_signals.Given as goal

-- so many hold or don't fit, as many as were looked at, and the rest determines the verdict
abbrev pub invariant-signals : goal.invariant-signals
invariant-signals l = IsPlain l.world × SignalsLead l.code l.fn.kind l.object l.signals (state_of l.fn.world) (l.number + 1) (drop l.signal-index l.signals) (state_of l.world) × (l.number ≡ l.signal-index)
