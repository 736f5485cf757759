use Rattle.std.proofs.Common.{◌≡◌, [], None, List}
use Rattle.kr_base.specs.declared.entry.Entry.{Entry}
use Rattle.kr_deque_hands.specs.Hands.{Works}
use Rattle.kr_deque_hands.proofs.working.shut.Given as goal

abbrev pub invariant-loop : goal.invariant-loop
invariant-loop g l =
    (goal.iterator-loop g).can_next l.iterator' × (goal.iterator-loop g).is_finite l.iterator' × (l.hand.refused ≡ None) × ((all : List (Entry g.row.R.Denot)) → Works all l.fn.hand [] l.hand [])
