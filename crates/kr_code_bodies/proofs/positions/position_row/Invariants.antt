use Rattle.std.specs.Prelude.{None}
use Rattle.kr_code_bodies.specs.Tabled.{IsPosition}
use Rattle.kr_code_bodies.proofs.Rows.{IsFront}
use Rattle.kr_code_bodies.proofs.positions.position_row.Given as goal

abbrev pub invariant-loop-class : goal.invariant-loop-class
invariant-loop-class l = IsFront None (IsPosition l.trees l.name) l.class l.row.items
