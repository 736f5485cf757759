use Rattle.std.proofs.Common.{◌≡◌, ◌+◌, drop}
use Rattle.kr_run_state.specs.Worlds.{state_of}
use Rattle.kr_contract.specs.Tests.{IsPlain}
use Rattle.kr_contract.proofs.Decided.{EnsuredLead}
use Rattle.kr_contract.proofs.parts.check_all.Given as goal

-- so many hold, as many as were looked at, and the rest determines the verdict
abbrev pub invariant-nodes : goal.invariant-nodes
invariant-nodes l = IsPlain l.world × EnsuredLead l.code l.nodes (state_of l.fn.world) (l.number + 1) (drop l.node-index l.nodes) (state_of l.world) × (l.number ≡ l.node-index)
