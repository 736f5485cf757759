use Rattle.std.proofs.Common.{◌≡◌, drop, map}
use Rattle.std.specs.Prelude.{flat_map}
use Rattle.kr_classes_table.specs.Arrays.{arrays_in}
use Rattle.kr_space_names.specs.Collected.{AreNumbers, IsClosed, collected, types_shown}
use Rattle.kr_space_rules.specs.Entries.{bound_shown}
use Rattle.kr_space.proofs.arrays.add_bounded.Given as goal

abbrev pub invariant-loop-bound : goal.invariant-loop-bound
invariant-loop-bound l = record {
  numbers : AreNumbers l.types l.arrays;
  closed : IsClosed (types_shown l.types l.arrays);
  shown : collected (types_shown l.types l.initial.arrays) (flat_map (λ a. arrays_in a.0) (map (bound_shown l.types l.all) l.bounds))
      ≡ collected (types_shown l.types l.arrays) (flat_map (λ a. arrays_in a.0) (map (bound_shown l.types l.all) (drop l.bound-index l.bounds)));
}
