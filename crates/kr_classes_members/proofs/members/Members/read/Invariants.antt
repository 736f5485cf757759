use Rattle.std.proofs.Common.{◌≡◌, map, All, take}
use Rattle.kr_classes_table.specs.Table.{classes_from}
use Rattle.kr_classes_names.specs.Shown.{heading_shown}
use Rattle.kr_classes_members.specs.Shown.{headings_in}
use Rattle.kr_classes_members.specs.Kept.{IsClass, class_shown}
use Rattle.kr_classes_members.proofs.members.Members.read.Given as goal

abbrev pub invariant-loop-class : goal.invariant-loop-class
invariant-loop-class l = record {
  stands : All (IsClass l.trees) l.classes.items;
  shown : map (class_shown l.trees) l.classes.items ≡ classes_from (headings_in l.trees) 0 (map (heading_shown l.trees) (take l.class l.heading-items));
}
