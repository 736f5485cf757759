use Rattle.std.specs.Prelude.{None}
use Rattle.kr_classes_members.specs.Shown.{field_shown}
use Rattle.kr_code_bodies.specs.Tabled.{IsSpot}
use Rattle.kr_code_bodies.proofs.Rows.{IsFront}
use Rattle.kr_code_bodies.proofs.spots.spot_row.Given as goal

abbrev pub invariant-loop-class : goal.invariant-loop-class
invariant-loop-class l = IsFront None (IsSpot l.trees (field_shown l.trees l.field)) l.class l.row.items
