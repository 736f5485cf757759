use Rattle.std.proofs.Common.{drop}
use Rattle.kr_run_state.specs.Worlds.{state_of}
use Rattle.kr_contract.specs.Tests.{IsPlain}
use Rattle.kr_contract.proofs.Decided.{OldsLead}
use Rattle.kr_contract.proofs.parts.value_olds.Given as goal

-- so many are valued, and what is left follows
abbrev pub invariant-olds : goal.invariant-olds
invariant-olds l = IsPlain l.world × OldsLead l.code l.olds (state_of l.fn.world) (drop l.old-index l.olds) l.values.items (state_of l.world)
