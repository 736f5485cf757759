use Rattle.std.proofs.Common.{◌≡◌, ℕ, ◌<◌, ◌≤◌, get_or}
use Rattle.kr_judge.proofs.order.first_without.Given as goal

-- it isn't among those that were looked at
abbrev pub invariant-slots : goal.invariant-slots
invariant-slots l = (l.left ≤ l.all) × ((i : ℕ) → l.left ≤ i → i < l.all → get_or l.slots i 0 ≡ l.slot → ⊥)

abbrev pub decreases-slots : goal.decreases-slots
decreases-slots l = l.left
