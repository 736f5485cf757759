use Rattle.std.proofs.Common.{◌≡◌, length, map, take}
use Rattle.kr_heap.specs.Shown.{shown}
use Rattle.kr_heap.proofs.heap.copy_into.Given as goal

-- the first are copied
abbrev pub invariant-objects : goal.invariant-objects
invariant-objects l = (length l.objects.items ≡ length l.fn.objects.items) × (take l.number (map shown l.objects.items) ≡ take l.number (map shown l.others))
