use Rattle.std.proofs.Common.{◌≡◌, drop}
use Rattle.kr_space_names.specs.Collected.{AreNumbers, collected, types_shown}
use Rattle.kr_space_names.proofs.collected.add_all.Given as goal

abbrev pub invariant-loop-number : goal.invariant-loop-number
invariant-loop-number l = record {
  numbers : AreNumbers l.types l.arrays;
  shown : collected (types_shown l.types l.initial.arrays) (types_shown l.types l.more) ≡ collected (types_shown l.types l.arrays) (types_shown l.types (drop l.number-index l.more));
}
