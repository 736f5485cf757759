use Rattle.std.proofs.Common.{◌≡◌, length, map}
use Rattle.kr_classes_names.specs.Types.{Extends}
use Rattle.kr_classes_names.specs.Numbers.{AreNodeTypesOf}
use Rattle.kr_classes_names.proofs.numbers.NodeTypes.read.Given as goal

abbrev pub invariant-loop-file : goal.invariant-loop-file
invariant-loop-file l = record {
  long : length l.files.items ≡ l.file;
  numbers : AreNodeTypesOf l.trees l.types l.file (map (λ v. v.items) l.files.items);
  extends : Extends l.fn.types l.types;
}
