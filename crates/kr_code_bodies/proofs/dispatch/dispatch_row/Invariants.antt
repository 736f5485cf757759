use Rattle.std.specs.Prelude.{None}
use Rattle.kr_classes_members.specs.Shown.{method_shown}
use Rattle.kr_code_bodies.specs.Tabled.{IsOverrider}
use Rattle.kr_code_bodies.proofs.Rows.{IsFront}
use Rattle.kr_code_bodies.proofs.dispatch.dispatch_row.Given as goal

abbrev pub invariant-loop-class : goal.invariant-loop-class
invariant-loop-class l = IsFront None (IsOverrider l.trees (method_shown l.trees l.method)) l.class l.row.items
