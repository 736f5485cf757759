use Rattle.std.proofs.Common.{◌≡◌, length}
use Rattle.kr_classes_names.specs.Types.{Extends}
use Rattle.kr_classes_names.specs.Numbers.{AreNumbersOf}
use Rattle.kr_classes_names.proofs.numbers.file_types.Given as goal

abbrev pub invariant-loop-node : goal.invariant-loop-node
invariant-loop-node l = record {
  long : length l.numbers.items ≡ l.node;
  numbers : AreNumbersOf l.trees l.types l.file l.node l.numbers.items;
  usual : l.numbers.usual ≡ l.void;
  extends : Extends l.fn.types l.types;
}
