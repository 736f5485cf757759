use Rattle.std.proofs.Common.{map, take}
use Rattle.kr_classes_names.specs.Listed.{IsIndexOf}
use Rattle.kr_classes_names.specs.Shown.{name_shown}
use Rattle.kr_classes_names.proofs.class_names.class_index.Given as goal

abbrev pub invariant-loop-class : goal.invariant-loop-class
invariant-loop-class l = IsIndexOf (map (name_shown l.trees) (take l.class l.headings)) l.index
