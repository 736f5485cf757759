use Rattle.std.proofs.Common.{◌≡◌, ◌++◌, drop}
use Rattle.std.specs.Prelude.{map}
use Rattle.kr_space_layout.specs.Stretches.{stretch_of}
use Rattle.kr_space_layout.proofs.values.Values.of.Given as goal

abbrev pub invariant-loop-item : goal.invariant-loop-item
invariant-loop-item l = map (stretch_of l.blocks) l.items ≡ l.values ++ map (stretch_of l.blocks) (drop l.item-index l.items)
