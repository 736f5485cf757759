use Rattle.kr_mean.specs.Entries.{name_in}
use Rattle.kr_mean.specs.Space.{space_of}
use Rattle.kr_space_layout.specs.Bounds.{bare}
use Rattle.kr_plain.proofs.Moving.{Renames}
use Rattle.kr_plain.proofs.renaming.rename.Given as goal

abbrev pub invariant-loop-slot : goal.invariant-loop-slot
invariant-loop-slot l = Renames (space_of (bare l.layout)) (name_in l.perm) l.vector l.renamed l.slot
