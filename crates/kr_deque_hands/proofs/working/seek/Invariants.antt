use Rattle.std.proofs.Common.{◌≡◌, [], List}
use Rattle.kr_base.specs.declared.entry.Entry.{Entry}
use Rattle.kr_deque_hands.specs.Hands.{IsHandOf, Works}
use Rattle.kr_deque_hands.proofs.working.seek.Given as goal

abbrev pub invariant-loop : goal.invariant-loop
invariant-loop g l =
    (goal.iterator-loop g).can_next l.iterator' × (goal.iterator-loop g).is_finite l.iterator' × (l.hand.refused ≡ l.fn.hand.refused) × IsHandOf l.work l.hand
    × ((all : List (Entry g.row.R.Denot)) → Works all l.fn.hand [] l.hand [])
