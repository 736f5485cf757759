use Rattle.std.specs.Prelude.{None}
use Rattle.kr_classes_members.specs.Shown.{table_in}
use Rattle.kr_classes_members.specs.Rosters.{method_numbered}
use Rattle.kr_code_bodies.specs.Tabled.{IsOverrider}
use Rattle.kr_code_bodies.proofs.Rows.{AreFront}
use Rattle.kr_code_bodies.proofs.dispatch.dispatch.Given as goal

abbrev pub invariant-loop-method : goal.invariant-loop-method
invariant-loop-method l = AreFront None (λ k. IsOverrider l.trees (method_numbered (table_in l.trees) k)) l.method-index l.rows.items
