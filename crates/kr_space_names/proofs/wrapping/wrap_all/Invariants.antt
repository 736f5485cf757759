use Rattle.std.proofs.Common.{◌≡◌, Option, length}
use Rattle.kr_classes_table.specs.Types.{JavaType}
use Rattle.kr_classes_names.specs.Types.{Extends}
use Rattle.kr_space_names.specs.Texts.{Stands, wrapped}
use Rattle.kr_space_names.proofs.wrapping.wrap_all.Given as goal

abbrev pub invariant-loop-wrapping : goal.invariant-loop-wrapping
invariant-loop-wrapping l = record {
  some : (t : Option JavaType) × Stands l.types l.next t;
  stands : (t : Option JavaType) → Stands l.initial.types l.initial.next t → (u : Option JavaType) × (Stands l.types l.next u × (wrapped l.wrappings.items u ≡ wrapped l.initial.wrappings.items t));
  extends : Extends l.initial.types l.types;
}

abbrev pub decreases-loop-wrapping : goal.decreases-loop-wrapping
decreases-loop-wrapping l = length l.wrappings.items
