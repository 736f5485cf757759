use Rattle.std.proofs.Common.{◌≡◌, ◌++◌, map, take}
use Rattle.kr_heap.specs.Shown.{shown}
use Rattle.kr_heap.proofs.heap.append_copies.Given as goal

abbrev pub invariant-loop-other : goal.invariant-loop-other
invariant-loop-other l = map shown l.objects.items ≡ map shown l.fn.objects.items ++ map shown (take l.other-index l.others)
