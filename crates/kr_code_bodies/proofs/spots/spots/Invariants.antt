use Rattle.std.specs.Prelude.{None}
use Rattle.kr_classes_members.specs.Shown.{table_in}
use Rattle.kr_classes_members.specs.Rosters.{field_numbered}
use Rattle.kr_code_bodies.specs.Tabled.{IsSpot}
use Rattle.kr_code_bodies.proofs.Rows.{AreFront}
use Rattle.kr_code_bodies.proofs.spots.spots.Given as goal

abbrev pub invariant-loop-field : goal.invariant-loop-field
invariant-loop-field l = AreFront None (λ k. IsSpot l.trees (field_numbered (table_in l.trees) k)) l.field-index l.rows.items
