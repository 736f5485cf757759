use Rattle.std.proofs.Common.{◌≡◌, ◌++◌, List, map, take, All}
use Rattle.std.specs.Prelude.{flat_map}
use Rattle.kr_ast.specs.Arena.{Arena}
use Rattle.kr_classes_table.specs.Table.{is_instance}
use Rattle.kr_classes_members.specs.Shown.{IsField, field_shown}
use Rattle.kr_classes_members.specs.Kept.{AreMembers}
use Rattle.kr_classes_members.proofs.members.Members.add_instance_fields.Given as goal

abbrev pub invariant-loop-field : goal.invariant-loop-field
invariant-loop-field l = record {
  stands : (files : List Arena) → AreMembers files l.self → All (IsField files) l.initial.fields.items → All (IsField files) l.fields.items;
  shown : (files : List Arena) → map (field_shown files) l.fields.items ≡ map (field_shown files) l.initial.fields.items ++ flat_map (λ f. is_instance (field_shown files f)) (take l.field-index l.field-items);
}
