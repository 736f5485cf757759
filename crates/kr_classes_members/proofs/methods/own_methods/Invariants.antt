use Rattle.std.proofs.Common.{◌≡◌, map, All, take}
use Rattle.std.specs.Prelude.{flat_map}
use Rattle.kr_ast.specs.Arena.{tree_in}
use Rattle.kr_classes_table.specs.Table.{methods_in}
use Rattle.kr_ast.specs.Files.{file_at}
use Rattle.kr_classes_members.specs.Shown.{IsMethod, method_shown, headings_in}
use Rattle.kr_classes_members.proofs.methods.own_methods.Given as goal

abbrev pub invariant-loop-member : goal.invariant-loop-member
invariant-loop-member l = record {
  stands : All (IsMethod l.trees) l.methods.items;
  shown : map (method_shown l.trees) l.methods.items ≡ flat_map (λ n. methods_in (headings_in l.trees) l.class (tree_in (file_at l.trees l.file) n)) (take l.member-index l.members);
}
