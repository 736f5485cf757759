use Rattle.std.proofs.Common.{◌≡◌, ◌++◌, drop}
use Rattle.std.specs.Prelude.{All}
use Rattle.kr_space_layout.specs.Stretches.{IsNumbered}
use Rattle.kr_space_layout.specs.Tables.{blocks_from}
use Rattle.kr_space_layout.proofs.tables.blocks_of.Given as goal

abbrev pub invariant-loop-class : goal.invariant-loop-class
invariant-loop-class l = record {
  are : blocks_from 0 0 l.classes ≡ l.blocks.items ++ blocks_from l.domain l.first (drop l.class-index l.classes);
  numbered : All IsNumbered l.blocks.items;
}
