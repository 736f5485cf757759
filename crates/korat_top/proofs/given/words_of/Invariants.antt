use Rattle.std.proofs.Common.{◌≡◌, ◌++◌}
use Rattle.std.specs.Prelude.{map, string_bytes}
use Rattle.std.specs.Vec.Iter.{into_iter_items}
use Rattle.korat_top.proofs.given.words_of.Given as goal

abbrev pub invariant-loop-word : goal.invariant-loop-word
invariant-loop-word l = (l.yielded ++ into_iter_items l.word-iterator ≡ into_iter_items l.initial.word-iterator)
    × (l.words ≡ map string_bytes l.yielded)
