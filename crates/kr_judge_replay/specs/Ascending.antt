-- Between crates: checkpoints in the order in which their runs reached them.
use Rattle.std.specs.Prelude.{ℕ, ◌<◌, ◌≤◌, List, length}
use Rattle.std.proofs.Common.{get_or}
use Rattle.kr_judge_replay.specs.declared.check.Check.{Check}

-- an earlier one had read at most as many places as a later one
abbrev pub Ascend : List Check → Type 0
Ascend checks = (i j : ℕ) (other : Check) → i ≤ j → j < length checks → (get_or checks i other).count ≤ (get_or checks j other).count

-- one had read at most so many places
abbrev pub HadRead : ℕ → Check → Type 0
HadRead places c = c.count ≤ places
