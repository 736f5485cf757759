use Rattle.std.proofs.Common.{◌≡◌, ◌<◌, ◌++◌}
use Rattle.std.specs.Prelude.{reverse}
use Rattle.kr_classes_table.specs.Arrays.{arrays_in}
use Rattle.kr_classes_names.specs.Types.{count, type_at}
use Rattle.kr_space_names.specs.Collected.{AreNumbers, depth, types_shown}
use Rattle.kr_space_names.proofs.inside.arrays_within.Given as goal

abbrev pub invariant-loop-inner : goal.invariant-loop-inner
invariant-loop-inner l = record {
  numbers : AreNumbers l.types (reverse l.found.items);
  at : l.at < count l.types;
  shown : arrays_in (type_at l.types l.number) ≡ arrays_in (type_at l.types l.at) ++ types_shown l.types (reverse l.found.items);
}

abbrev pub decreases-loop-inner : goal.decreases-loop-inner
decreases-loop-inner l = depth (type_at l.types l.at)
