use Rattle.std.proofs.Common.{◌≡◌, List, map, take, All}
use Rattle.std.specs.Prelude.{flat_map}
use Rattle.kr_ast.specs.Arena.{Arena}
use Rattle.kr_classes_table.specs.Table.{is_instance, own_fields}
use Rattle.kr_classes_members.specs.Shown.{IsField, field_shown, table_in}
use Rattle.kr_classes_members.specs.Kept.{AreMembers}
use Rattle.kr_classes_members.proofs.members.Members.fields_of.Given as goal

abbrev pub invariant-loop-here : goal.invariant-loop-here
invariant-loop-here l = record {
  stands : (files : List Arena) → AreMembers files l.self → All (IsField files) l.fields.items;
  shown : (files : List Arena) → AreMembers files l.self → map (field_shown files) l.fields.items ≡ flat_map (λ c. flat_map is_instance (own_fields (table_in files) c)) (take l.here-index l.here-items);
}
