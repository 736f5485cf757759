use Rattle.std.proofs.Common.{◌≡◌, map, drop}
use Rattle.kr_classes_names.specs.Types.{type_at}
use Rattle.kr_classes.specs.Overriding.{are_same}
use Rattle.kr_classes.proofs.overriding.are_equal.Given as goal

abbrev pub invariant-loop-number : goal.invariant-loop-number
invariant-loop-number l = are_same (map (type_at l.types) (drop l.number l.first)) (map (type_at l.types) (drop l.number l.second)) ≡ are_same (map (type_at l.types) l.first) (map (type_at l.types) l.second)
