use Rattle.std.proofs.Common.{map}
use Rattle.std.specs.Prelude.{None}
use Rattle.kr_code.specs.Tables.{row_items}
use Rattle.kr_code_bodies.specs.Tabled.{IsPosition, name_numbered}
use Rattle.kr_code_bodies.proofs.Rows.{AreFront}
use Rattle.kr_code_bodies.proofs.positions.positions.Given as goal

abbrev pub invariant-loop-name : goal.invariant-loop-name
invariant-loop-name l = AreFront None (λ k. IsPosition l.trees (name_numbered l.trees (map row_items l.names) k)) l.name-index l.rows.items
