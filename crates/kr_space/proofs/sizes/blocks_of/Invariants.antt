use Rattle.std.proofs.Common.{◌≡◌, ◌++◌, drop}
use Rattle.std.specs.Prelude.{All, map}
use Rattle.kr_space_layout.specs.Stretches.{IsNumbered}
use Rattle.kr_space_layout.specs.Tables.{blocks_from}
use Rattle.kr_space.specs.Sizes.{bare_class}
use Rattle.kr_space.proofs.sizes.blocks_of.Given as goal

abbrev pub invariant-loop-count : goal.invariant-loop-count
invariant-loop-count l = record {
  are : blocks_from 0 0 (map bare_class l.counts) ≡ l.blocks.items ++ blocks_from l.domain l.first (map bare_class (drop l.count-index l.counts));
  numbered : All IsNumbered l.blocks.items;
}
