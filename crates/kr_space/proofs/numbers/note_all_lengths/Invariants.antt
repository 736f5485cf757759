use Rattle.std.proofs.Common.{◌≡◌, fold, drop}
use Rattle.kr_classes_names.specs.Types.{Extends}
use Rattle.kr_space_meaning.specs.Faults.{numbers_of_lengths}
use Rattle.kr_space_meaning.specs.Order.{lesser}
use Rattle.kr_space.specs.Bounded.{IsBounded, problem_in, setting_in}
use Rattle.kr_space.proofs.numbers.note_all_lengths.Given as goal

abbrev pub invariant-loop-bound : goal.invariant-loop-bound
invariant-loop-bound l = record {
  noted : fold lesser l.initial.least (numbers_of_lengths (problem_in l.bounded) (setting_in l.bounded) l.bounds) ≡ fold lesser l.least (numbers_of_lengths (problem_in l.bounded) (setting_in l.bounded) (drop l.bound-index l.bounds));
  bounded : IsBounded l.types l.bounded;
  extends : Extends l.initial.types l.types;
}
