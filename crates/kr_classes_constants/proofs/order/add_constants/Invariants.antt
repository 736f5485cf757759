use Rattle.std.proofs.Common.{◌≡◌, ◌++◌, List, map, take, All}
use Rattle.std.specs.Prelude.{flat_map}
use Rattle.kr_ast.specs.Arena.{Arena}
use Rattle.kr_classes_members.specs.Shown.{IsField, field_shown}
use Rattle.kr_classes_members.specs.Kept.{AreMembers}
use Rattle.kr_classes_constants.specs.Outcomes.{constant_listed}
use Rattle.kr_classes_constants.proofs.order.add_constants.Given as goal

abbrev pub invariant-loop-field : goal.invariant-loop-field
invariant-loop-field l = record {
  stands : (files : List Arena) → AreMembers files l.members → All (IsField files) l.initial.constants.items → All (IsField files) l.constants.items;
  shown : (files : List Arena) → map (field_shown files) l.constants.items ≡ map (field_shown files) l.initial.constants.items ++ flat_map (λ f. constant_listed (field_shown files f)) (take l.field-index l.field-items);
}
