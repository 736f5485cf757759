use Rattle.std.proofs.Common.{map, take}
use Rattle.kr_classes_names.specs.Listed.{IsIndexOf}
use Rattle.kr_classes_members.specs.Shown.{method_name}
use Rattle.kr_classes_members.proofs.methods.method_index.Given as goal

abbrev pub invariant-loop-number : goal.invariant-loop-number
invariant-loop-number l = IsIndexOf (map (method_name l.trees) (take l.number l.methods)) l.index
