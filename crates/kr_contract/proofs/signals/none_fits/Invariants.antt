use Rattle.std.proofs.Common.{◌≡◌, drop}
use Rattle.kr_contract.specs.Tests.{fitting_at, no_clause}
use Rattle.kr_contract.proofs.signals.none_fits.Given as goal

-- so far none has fitted
abbrev pub invariant-signals : goal.invariant-signals
invariant-signals l = no_clause (fitting_at l.code l.fn.kind 1 l.signals) ≡ no_clause (fitting_at l.code l.fn.kind 1 (drop l.signal-index l.signals))
