use Rattle.std.proofs.Common.{◌≡◌, ◌++◌, drop}
use Rattle.std.specs.Prelude.{map}
use Rattle.kr_space_layout.specs.Layouts.{stretches}
use Rattle.kr_space_layout.proofs.layout.pool_of.Given as goal

abbrev pub invariant-loop-items : goal.invariant-loop-items
invariant-loop-items l = map (stretches l.blocks) l.domains ≡ l.pool.items ++ map (stretches l.blocks) (drop l.items-index l.domains)
