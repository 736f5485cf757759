-- To be believed: whose call was refused memory.
use Rattle.std.specs.Prelude.{ℕ}
use Rattle.kr_pool_workers.specs.declared.refusal.Refusal.{Refusal}

-- the number of the seat
abbrev pub whose : Refusal → ℕ
whose refusal = refusal.seat
