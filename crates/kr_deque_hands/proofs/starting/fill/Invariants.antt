use Rattle.std.proofs.Common.{◌≡◌, ◌++◌, true, [], length}
use Rattle.std.specs.Vec.Iter.{into_iter_items}
use Rattle.crossbeam_deque.specs.Handles.{SameWorker, worker_view, worker_index}
use Rattle.kr_deque_hands.specs.Pieces.{AllAhead}
use Rattle.kr_deque_hands.specs.Logs.{log, view_of, no_marks}
use Rattle.kr_deque_hands.proofs.starting.fill.Given as goal

abbrev pub invariant-loop-span : goal.invariant-loop-span
invariant-loop-span l =
    (l.yielded ++ into_iter_items l.span-iterator ≡ l.fn.spans.items) × AllAhead (into_iter_items l.span-iterator) × SameWorker l.fn.deque l.deque
    × (worker_index l.deque ≡ length l.yielded) × (worker_view l.deque ≡ view_of (log true true l.yielded [] [] []) no_marks)
