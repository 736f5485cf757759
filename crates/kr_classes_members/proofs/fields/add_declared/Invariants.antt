use Rattle.std.proofs.Common.{◌≡◌, ◌++◌, map, All, take}
use Rattle.std.specs.Prelude.{flat_map}
use Rattle.kr_ast.specs.Arena.{tree_in}
use Rattle.kr_classes_table.specs.Table.{declared_in}
use Rattle.kr_ast.specs.Files.{file_at}
use Rattle.kr_classes_members.specs.Shown.{IsField, field_shown, headings_in}
use Rattle.kr_classes_members.proofs.fields.add_declared.Given as goal

abbrev pub invariant-loop-declarator : goal.invariant-loop-declarator
invariant-loop-declarator l = record {
  stands : All (IsField l.trees) l.fields.items;
  shown : map (field_shown l.trees) l.fields.items
      ≡ map (field_shown l.trees) l.initial.fields.items
      ++ flat_map (λ n. declared_in (headings_in l.trees) l.line.class l.line.is_static l.line.is_final (tree_in (file_at l.trees l.line.file) l.line.declared) (tree_in (file_at l.trees l.line.file) n)) (take l.declarator-index l.declarator-items);
}
