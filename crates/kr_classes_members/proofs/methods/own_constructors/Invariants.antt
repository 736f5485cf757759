use Rattle.std.proofs.Common.{◌≡◌, map, All, take}
use Rattle.std.specs.Prelude.{flat_map}
use Rattle.kr_ast.specs.Arena.{tree_in}
use Rattle.kr_classes_table.specs.Table.{constructors_in}
use Rattle.kr_ast.specs.Files.{file_at}
use Rattle.kr_classes_members.specs.Shown.{IsConstructor, constructor_shown, headings_in}
use Rattle.kr_classes_members.proofs.methods.own_constructors.Given as goal

abbrev pub invariant-loop-member : goal.invariant-loop-member
invariant-loop-member l = record {
  stands : All (IsConstructor l.trees) l.constructors.items;
  shown : map (constructor_shown l.trees) l.constructors.items ≡ flat_map (λ n. constructors_in (headings_in l.trees) (tree_in (file_at l.trees l.file) n)) (take l.member-index l.members);
}
