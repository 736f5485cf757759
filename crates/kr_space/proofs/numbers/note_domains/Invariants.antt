use Rattle.std.proofs.Common.{◌≡◌, fold, drop}
use Rattle.kr_classes_names.specs.Types.{Extends}
use Rattle.kr_space_meaning.specs.Faults.{numbers_of}
use Rattle.kr_space_meaning.specs.Order.{lesser}
use Rattle.kr_space_rules.specs.Widths.{asked}
use Rattle.kr_space.specs.Bounded.{IsBounded, problem_in, setting_in}
use Rattle.kr_space.proofs.numbers.note_domains.Given as goal

abbrev pub invariant-loop-domain : goal.invariant-loop-domain
invariant-loop-domain l = record {
  noted : fold lesser l.initial.least (numbers_of (problem_in l.bounded) (setting_in l.bounded) (asked (setting_in l.bounded) l.keyed) l.table l.domains) ≡ fold lesser l.least (numbers_of (problem_in l.bounded) (setting_in l.bounded) (asked (setting_in l.bounded) l.keyed) l.table (drop l.domain-index l.domains));
  bounded : IsBounded l.types l.bounded;
  extends : Extends l.initial.types l.types;
}
