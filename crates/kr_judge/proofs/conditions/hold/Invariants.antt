use Rattle.std.proofs.Common.{drop}
use Rattle.kr_run_state.specs.Worlds.{state_of}
use Rattle.kr_judge.proofs.Holding.{LeadsOn}
use Rattle.kr_judge.proofs.conditions.hold.Given as goal

-- the rest of the conditions, from the start
abbrev pub invariant-conditions : goal.invariant-conditions
invariant-conditions l = LeadsOn l.code l.conditions (state_of l.fn.world) l.fn.world.reads (drop l.condition-index l.conditions) (state_of l.world) l.world.reads
