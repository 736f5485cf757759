use Rattle.kr_classes.specs.Faults.{IsLeft, IsWithin}
use Rattle.kr_classes.proofs.name_rules.is_own_ancestor.Given as goal

abbrev pub invariant-loop-turn : goal.invariant-loop-turn
invariant-loop-turn l = record {
  within : IsWithin l.supers l.at;
  left : IsLeft l.supers l.class l.turn l.at;
}
