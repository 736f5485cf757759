use Rattle.std.proofs.Common.{◌≡◌, max, drop}
use Rattle.kr_space_meaning.specs.Bounds.{Setting, greatest, lengths_of}
use Rattle.kr_space.proofs.lengths.greatest_length.Given as goal

abbrev pub invariant-loop-item : goal.invariant-loop-item
invariant-loop-item l = (setting : Setting) → greatest (lengths_of setting l.items) ≡ max l.found (greatest (lengths_of setting (drop l.item-index l.items)))
