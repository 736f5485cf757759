use Rattle.std.proofs.Common.{map, take}
use Rattle.kr_classes_names.specs.Listed.{IsIndexOf}
use Rattle.kr_classes_members.specs.Shown.{field_name}
use Rattle.kr_classes_members.proofs.fields.field_index.Given as goal

abbrev pub invariant-loop-number : goal.invariant-loop-number
invariant-loop-number l = IsIndexOf (map (field_name l.trees) (take l.number l.fields)) l.index
