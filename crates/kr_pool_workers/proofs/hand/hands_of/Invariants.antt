use Rattle.std.proofs.Common.{◌≡◌, ◌+◌, ◌++◌, length, map, reverse, vec_capacity, ◌≤◌, false}
use Rattle.std.specs.Prelude.{is_some}
use Rattle.std.specs.List.{list_any}
use Rattle.kr_pool_workers.proofs.hand.hands_of.Given as goal

abbrev pub invariant-loop-seat : goal.invariant-loop-seat
invariant-loop-seat g l =
    (vec_capacity l.fn.seats ≤ vec_capacity l.seats) × (length l.hands.items + length l.seats.items ≡ length l.fn.seats.items) × (l.seats.items ++ reverse (map (λ h. h.seat) l.hands.items) ≡ l.fn.seats.items)
    × (list_any (λ h. is_some h.refused) l.hands.items ≡ false)

abbrev pub decreases-loop-seat : goal.decreases-loop-seat
decreases-loop-seat g l = length l.seats.items
