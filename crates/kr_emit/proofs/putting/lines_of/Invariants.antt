use Rattle.std.proofs.Common.{◌≡◌, ◌+◌, ◌++◌, length}
use Rattle.std.specs.Vec.Iter.{into_iter_items, into_iter_len}
use Rattle.kr_emit.specs.Writers.{numbered}
use Rattle.kr_emit.proofs.putting.lines_of.Given as goal

abbrev pub invariant-loop-builder : goal.invariant-loop-builder
invariant-loop-builder l = (l.yielded ++ into_iter_items l.builder-iterator ≡ l.fn.builders.items) × (into_iter_len l.builder-iterator ≡ length (into_iter_items l.builder-iterator))
    × (l.lines.items ≡ numbered l.first l.yielded)
    × (l.number ≡ l.first + length l.yielded)
