use Rattle.std.proofs.Common.{◌≡◌, ◌+◌, ℕ, drop}
use Rattle.kr_core.specs.Rows.{drained}
use Rattle.kr_pool_desk.specs.Limits.{IsWanted}
use Rattle.kr_pool.proofs.alone.wanted_after.Given as goal

abbrev pub invariant-loop-event : goal.invariant-loop-event
invariant-loop-event l = (d : ℕ) × IsWanted l.fn.limit d l.wanted × (d + drained (drop l.event-index l.log) ≡ drained l.log)
