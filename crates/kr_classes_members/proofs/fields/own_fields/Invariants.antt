use Rattle.std.proofs.Common.{◌≡◌, map, All, take}
use Rattle.std.specs.Prelude.{flat_map}
use Rattle.kr_ast.specs.Arena.{tree_in}
use Rattle.kr_classes_table.specs.Table.{fields_in}
use Rattle.kr_ast.specs.Files.{file_at}
use Rattle.kr_classes_members.specs.Shown.{IsField, field_shown, headings_in}
use Rattle.kr_classes_members.proofs.fields.own_fields.Given as goal

abbrev pub invariant-loop-member : goal.invariant-loop-member
invariant-loop-member l = record {
  stands : All (IsField l.trees) l.fields.items;
  shown : map (field_shown l.trees) l.fields.items ≡ flat_map (λ n. fields_in (headings_in l.trees) l.class (tree_in (file_at l.trees l.file) n)) (take l.member-index l.members);
}
